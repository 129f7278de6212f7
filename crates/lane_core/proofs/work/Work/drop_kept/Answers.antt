use Rattle.lane_core.proofs.Working.{work-handed, carried-handed, value-handed}
use Rattle.lane_core.proofs.work.Work.drop_kept.Goals as goal

pub returns-clause-keeps : goal.returns-clause-keeps
returns-clause-keeps c = work-handed c.args.self.now c.drop_kept.new.self c.drop_kept.ensures.after c.drop_kept.ensures.events c.requires.keeps c.drop_kept.ensures.keeps

pub returns-clause-carried : goal.returns-clause-carried
returns-clause-carried c = carried-handed c.args.self.now c.drop_kept.new.self c.drop_kept.ensures.after c.drop_kept.ensures.events

pub returns-clause-same : goal.returns-clause-same
returns-clause-same c = value-handed c.args.self.now c.drop_kept.new.self c.drop_kept.ensures.after c.drop_kept.ensures.events

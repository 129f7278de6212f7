use Rattle.lane_core.proofs.Working.{work-handed, carried-handed, value-handed}
use Rattle.lane_core.proofs.work.Work.hand_over.Goals as goal

pub returns-clause-keeps : goal.returns-clause-keeps
returns-clause-keeps g c = work-handed c.args.self.now c.hand_over.new.self c.hand_over.ensures.after c.hand_over.ensures.events c.requires.keeps c.hand_over.ensures.keeps

pub returns-clause-carried : goal.returns-clause-carried
returns-clause-carried g c = carried-handed c.args.self.now c.hand_over.new.self c.hand_over.ensures.after c.hand_over.ensures.events

pub returns-clause-same : goal.returns-clause-same
returns-clause-same g c = value-handed c.args.self.now c.hand_over.new.self c.hand_over.ensures.after c.hand_over.ensures.events

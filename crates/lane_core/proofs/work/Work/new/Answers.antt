use Rattle.std.proofs.Common.{rules, refl}
use Rattle.lane_lines.proofs.Carrying.{carried-none}
use Rattle.lane_core.proofs.Working.{work-new}
use Rattle.lane_core.proofs.work.Work.new.Goals as goal

pub returns-clause-keeps : goal.returns-clause-keeps
returns-clause-keeps c = work-new _ (rw (c.new.ensures.lane, c.new.ensures.rules) c.requires.set_up) c.new.ensures.keeps c.new.ensures.journal c.new.ensures.newest c.new.ensures.parts c.new.ensures.spare (search rules) refl c.new-3.ensures.items (λ v. rw c.new-2.ensures.empty refl) c.none.ensures

pub returns-clause-value : goal.returns-clause-value
returns-clause-value c = λ given planned takes.
    rw (c.new.ensures.lane, c.new.ensures.rules, c.new.ensures.journal, c.new-3.ensures.items) refl

pub returns-clause-carried : goal.returns-clause-carried
returns-clause-carried c = carried-none c.new.result c.new.ensures.journal c.new.ensures.last c.new.ensures.late c.late_messages_wait.ensures.none

use Rattle.std.proofs.Common.{subst}
use Rattle.messages.specs.Kept.{IsFalling}
use Rattle.messages.proofs.Falling.{falling-first}
use Rattle.messages.proofs.late_list.LateList.take_due.Goals as goal

pub invariant_of-self : goal.invariant_of-self
invariant_of-self c = falling-first c.pop.new.self.items _ (subst IsFalling c.pop.ensures.items c.self.invariant)

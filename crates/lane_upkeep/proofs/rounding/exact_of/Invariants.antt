use Rattle.lane_upkeep.specs.RoundNotes.{AreExactBelow}
use Rattle.lane_upkeep.proofs.rounding.exact_of.Given as goal

abbrev pub invariant-loop-node : goal.invariant-loop-node
invariant-loop-node l = AreExactBelow l.round l.node l.exact.items

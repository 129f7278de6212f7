use Rattle.std.proofs.Common.{◌≡◌, ◌-◌, length, take}
use Rattle.group_counts.specs.Tallies.{told_outputs}
use Rattle.group_counts.proofs.tally.outputs_of.Given as goal

abbrev pub invariant-loop-at : goal.invariant-loop-at
invariant-loop-at l = l.outputs.items ≡ told_outputs (take l.at l.kinds) l.values

abbrev pub decreases-loop-at : goal.decreases-loop-at
decreases-loop-at l = length l.initial.kinds - l.at

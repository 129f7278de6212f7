use Rattle.std.proofs.Common.{◌≡◌}
use Rattle.lane_locks.proofs.finishing.go_round.Given as goal

abbrev pub invariant-loop-place : goal.invariant-loop-place
invariant-loop-place g l = l.slot.number ≡ l.fn.slot.number

use Rattle.std.proofs.Common.{◌≡◌}
use Rattle.lane_locks.proofs.finishing.end_all.Given as goal

abbrev pub invariant-loop : goal.invariant-loop
invariant-loop g l = l.slot.number ≡ l.fn.slot.number

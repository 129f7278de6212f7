use Rattle.lane_locks.specs.Lines.{AreEmpty}
use Rattle.lane_locks.proofs.lines.no_places.Given as goal

abbrev pub invariant-loop : goal.invariant-loop
invariant-loop l = AreEmpty l.counter l.last.items

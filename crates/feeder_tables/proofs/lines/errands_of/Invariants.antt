use Rattle.std.proofs.Common.{◌≤◌}
use Rattle.feeder_tables.proofs.lines.errands_of.Given as goal

abbrev pub invariant-loop-text : goal.invariant-loop-text
invariant-loop-text l =
    (goal.iterator-loop-text).can_next l.text-iterator × (goal.iterator-loop-text).is_finite l.text-iterator × (l.number ≤ 50000)

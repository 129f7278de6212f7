use Rattle.std.proofs.Common.{◌≡◌, ◌+◌, ◌≤◌}
use Rattle.lane_locks.specs.Lines.{IsAbove}
use Rattle.feeder_tables.specs.Lines.{AreOf}
use Rattle.feeder_tables.proofs.lines.list_of.Given as goal

abbrev pub invariant-loop-line : goal.invariant-loop-line
invariant-loop-line l =
    (goal.iterator-loop-line).can_next l.line-iterator × (goal.iterator-loop-line).is_finite l.line-iterator
    × (l.number ≤ 50000) × (l.list.feeders ≡ l.feeders) × IsAbove l.list.lines (l.number + 1) × AreOf l.setting.bits l.lane l.list.lines

use Rattle.std.proofs.Common.{◌≡◌, take}
use Rattle.node_rows.specs.TypedRows.{with_rows, all_taken}
use Rattle.node_rows.proofs.UndoLaws.{IsOver}
use Rattle.node_rows.proofs.node_rows.NodeRows.take_all.Given as goal

abbrev pub invariant-loop-at : goal.invariant-loop-at
invariant-loop-at l = (l.self ≡ with_rows (all_taken l.initial.self.types (take l.at l.entries) l.initial.self.rows) l.initial.self)
    × IsOver l.entries l.initial.self.rows l.self.rows

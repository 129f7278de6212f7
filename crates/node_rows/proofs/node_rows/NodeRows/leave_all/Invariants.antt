use Rattle.std.proofs.Common.{◌≡◌, take}
use Rattle.node_rows.specs.TypedRows.{with_rows, all_left}
use Rattle.node_rows.proofs.node_rows.NodeRows.leave_all.Given as goal

abbrev pub invariant-loop-at : goal.invariant-loop-at
invariant-loop-at l = l.self ≡ with_rows (all_left (take l.at l.entries) l.initial.self.rows) l.initial.self

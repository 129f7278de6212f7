use Rattle.std.proofs.Common.{◌≡◌, take}
use Rattle.node_rows.specs.TypedRows.{with_rows}
use Rattle.node_rows.proofs.node_rows.NodeRowsTryCopy.copy.Given as goal

abbrev pub invariant-loop-local : goal.invariant-loop-local
invariant-loop-local l = l.copy ≡ with_rows (take l.local l.self.rows) l.self

use Rattle.std.proofs.Common.{◌≡◌}
use Rattle.node_rows.specs.Kept.{kept_in, changed_below}
use Rattle.node_rows.specs.TypedRows.{with_rows}
use Rattle.node_rows.proofs.node_rows.NodeRows.drop_below.Given as goal

abbrev pub invariant-loop-local : goal.invariant-loop-local
invariant-loop-local l = l.self ≡ with_rows (changed_below (kept_in l.bucket) l.local l.initial.self.rows) l.initial.self

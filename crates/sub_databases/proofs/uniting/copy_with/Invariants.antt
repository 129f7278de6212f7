use Rattle.std.proofs.Common.{◌≡◌, take}
use Rattle.node_rows.specs.TypedRows.{with_rows, all_taken}
use Rattle.sub_databases.proofs.uniting.copy_with.Given as goal

abbrev pub invariant-loop-at : goal.invariant-loop-at
invariant-loop-at l = l.copy ≡ with_rows (all_taken l.rows.types (take l.at l.list) l.rows.rows) l.rows

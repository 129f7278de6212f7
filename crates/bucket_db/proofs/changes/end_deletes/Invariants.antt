use Rattle.std.proofs.Common.{◌≡◌}
use Rattle.bucket_db.specs.Changes.{without_delete}
use Rattle.bucket_db.proofs.Deletes.{changed_before}
use Rattle.bucket_db.proofs.changes.end_deletes.Given as goal

abbrev pub invariant-loop-row : goal.invariant-loop-row
invariant-loop-row l = l.rows ≡ changed_before (without_delete l.bucket l.node) l.row-index l.initial.rows

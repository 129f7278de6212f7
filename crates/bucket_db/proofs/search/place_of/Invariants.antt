use Rattle.std.proofs.Common.{◌≡◌, ℕ, ◌≤◌, true, Some}
use Rattle.std.specs.Prelude.{slice_get}
use Rattle.bucket_ids.specs.Buckets.{has_key}
use Rattle.bucket_db.specs.declared.row.Row.{Row}
use Rattle.bucket_db.proofs.search.place_of.Given as goal

-- the row of the key has no fewer bits
abbrev pub invariant-loop-bits : goal.invariant-loop-bits
invariant-loop-bits l = (k : ℕ) (row : Row) → slice_get l.rows k ≡ Some row → has_key row.bucket l.key ≡ true → l.bits ≤ row.bucket.bits

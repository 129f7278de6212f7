-- the buckets of the rows so far
use Rattle.std.proofs.Common.{◌≡◌, take}
use Rattle.bucket_db.specs.Rows.{buckets_of}
use Rattle.distributor_part.proofs.opening.buckets_of.Given as goal

abbrev pub invariant-loop-row : goal.invariant-loop-row
invariant-loop-row l = l.buckets.items ≡ buckets_of (take l.row-index l.rows)

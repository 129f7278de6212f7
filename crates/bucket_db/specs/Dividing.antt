-- How a bucket divides into the fewest parts that no answer divides; only `answers.rt` speaks of it.
use Rattle.std.specs.Prelude.{◌≡◌, true, false, List}
use Rattle.std.specs.List.{AllByRecursion, list_any}
use Rattle.bucket_ids.specs.Buckets.{Low, IsBucket, covers}
use Rattle.bucket_db.specs.Answers.{divides, NoneDivided}
use Rattle.bucket_db.specs.Rows.{AreBuckets, IsPartition}

-- the parts make up the bucket, no answer divides one, and what lies in the bucket and is not divided
-- lies in a part
pub record IsDivided (bucket : Low) (answers parts : List Low) : Type 0 where
  pub whole : IsBucket bucket
  pub valid : AreBuckets parts
  pub covered : AllByRecursion (λ p. covers bucket p ≡ true) parts
  pub partition : IsPartition bucket parts
  pub undivided : NoneDivided answers parts
  pub coarsest : (other : Low) → IsBucket other → covers bucket other ≡ true → divides answers other ≡ false
      → list_any (λ p. covers p other) parts ≡ true

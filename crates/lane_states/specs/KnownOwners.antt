-- The owner of a lane among these distributors.
use Rattle.std.specs.Prelude.{ℕ}
use Rattle.bucket_ids.specs.Buckets.{Low}

pub record Known : Type 0 where
  pub lane : Low
  pub distributors : ℕ
  pub owner : ℕ

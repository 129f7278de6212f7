-- Lines of a lane.
use Rattle.std.specs.Prelude.{◌≡◌, ℕ, ◌≤◌, Some, None, slice_get}
use Rattle.bucket_ids.specs.Buckets.{IsIn}
use Rattle.global_ids.specs.Keys.{lane_bucket}
use Rattle.lane_journals.specs.Buckets.{key_of}
use Rattle.lane_calls.specs.Lines.{FeedLine, Lines}

-- the line can be asked of the lane, among those that the bits tell apart
pub record IsOf (bits lane : ℕ) (line : FeedLine) : Type 0 where
  pub number : 1 ≤ line.number
  pub in_lane : IsIn (lane_bucket bits lane) (key_of line.operation.id)
  pub no_via : line.via ≡ None

abbrev pub AreOf : ℕ → ℕ → Lines → Type 0
AreOf bits lane lines = (at : ℕ) (line : FeedLine) → slice_get lines at ≡ Some line → IsOf bits lane line

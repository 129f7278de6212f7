-- What a lane of a session is between two lines.
use Rattle.std.specs.Prelude.{◌≡◌, ℕ, List, []}
use Rattle.bucket_ids.specs.Buckets.{Low}
use Rattle.carriers.specs.declared.fate.Fate.{Fate}
use Rattle.global_ids.specs.Keys.{lane_bucket}
use Rattle.lane_calls.specs.LaneValues.{LaneValue, IsLaneValue}
use Rattle.lane_lives.specs.declared.setting.Setting.{Setting}
use Rattle.lane_lives.specs.Lives.{Deed, IsLife, lines_of}
use Rattle.lane_calls.specs.Lines.{AreRising}

-- the lane of a number among those that the bits tell apart
abbrev pub bucket_in : Setting → ℕ → Low
bucket_in s lane = lane_bucket s.bits lane

-- these deeds happened there, these fates were planned, and no operation is under way
pub record IsServing (s : Setting) (planned : List Fate) (lane : ℕ) (deeds : List Deed) (v : LaneValue) : Type 0 where
  pub lane_is : v.lane ≡ bucket_in s lane
  pub rules_are : v.rules ≡ s.rules
  pub types_are : v.types ≡ s.schema
  pub planned_are : v.planned ≡ planned
  pub idle : v.under_way ≡ []
  pub rising : AreRising (lines_of deeds)
  pub life : IsLife s (bucket_in s lane) deeds v.journal
  -- the journal is legal, and each message had the events of its fate
  pub holds : IsLaneValue v

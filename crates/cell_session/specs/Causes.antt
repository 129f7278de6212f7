-- Why lines were refused, and why they got too few answers.
use Rattle.std.specs.Prelude.{◌≡◌, ℕ, List, Some, slice_get}
use Rattle.messages.specs.declared.outcome.Outcome.TheVariants.{TooFew, OwnedElsewhere}
use Rattle.lane_calls.specs.LaneValues.{LaneValue}
use Rattle.lane_lives.specs.declared.setting.Setting.{Setting}
use Rattle.lane_lives.specs.Lives.{Deed, lines_of}
use Rattle.lane_calls.specs.Readings.{outcome_in}
use Rattle.lane_promises.specs.Promises.{WasRefused, LineFellShort, LineFellShortBeside}
use Rattle.lane_lives.specs.Serving.{bucket_in}
use Rattle.session_cluster.specs.Cells.{Cell}

-- a line that another distributor's lane ended was refused at the one that it names, which isn't the owner under the state
-- that it held
abbrev pub AreRefused : Setting → (ℕ → List Deed) → Cell → Type 0
AreRefused s deeds c = (lane : ℕ) (v : LaneValue) → slice_get c.lanes lane ≡ Some v → (line owner version : ℕ)
    → outcome_in line v.journal ≡ Some (OwnedElsewhere owner version)
    → WasRefused (bucket_in s lane) (lines_of (deeds lane)) v.journal line owner version

pub record HaveCauses (s : Setting) (deeds : ℕ → List Deed) (c : Cell) : Type 0 where
  pub refused : AreRefused s deeds c
  -- a line that got too few answers asked the absent node, and nothing was heard of it, or just that it took a newer
  -- state; where nothing came back, that is by the fate of the message, or as the node was stopped
  pub short : (lane : ℕ) (v : LaneValue) → slice_get c.lanes lane ≡ Some v → (line answered needed absent : ℕ)
      → outcome_in line v.journal ≡ Some (TooFew answered needed absent)
      → LineFellShort v.given (lines_of (deeds lane)) v.journal line answered needed absent

-- the same where lines may have gone on beside others: so it was as the line wanted to end
pub record HaveCausesBeside (s : Setting) (deeds : ℕ → List Deed) (c : Cell) : Type 0 where
  pub refused : AreRefused s deeds c
  pub short : (lane : ℕ) (v : LaneValue) → slice_get c.lanes lane ≡ Some v → (line answered needed absent : ℕ)
      → outcome_in line v.journal ≡ Some (TooFew answered needed absent)
      → LineFellShortBeside v.given (lines_of (deeds lane)) v.journal line answered needed absent

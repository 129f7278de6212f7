-- In which order the passes of a session went.
use Rattle.std.specs.Prelude.{◌≡◌, ℕ, List, ◌++◌, length, Some, slice_get}
use Rattle.carriers.specs.declared.fate.Fate.{Fate}
use Rattle.lane_carriage.specs.Carriage.{IsCarried}
use Rattle.lane_journals.specs.declared.event.LaneEvent.{LaneEvent}
use Rattle.lane_calls.specs.LaneValues.{LaneValue}
use Rattle.lane_lives.specs.declared.setting.Setting.{Setting}
use Rattle.lane_lives.specs.declared.spans.UpkeepSpan.{UpkeepSpan}
use Rattle.session_cluster.specs.Cells.{Cell}
use Rattle.session_cluster.specs.Spans.{spans_of, PassesInOrder}

-- in a lane to whose messages the carrier gave these fates, the span of an upkeep is a pass that went on in the order of its
-- rule, whatever was lost
pub record WentInOrder (s : Setting) (lane : ℕ) (given : List Fate) (J : List LaneEvent) (span : UpkeepSpan) : Type 0 where
  -- the journal as upkeep was asked for, and as it was made
  pub before : List LaneEvent
  pub after : List LaneEvent
  pub from : span.from ≡ length before
  pub to : span.to ≡ length after
  -- what came later
  pub later : List LaneEvent
  pub whole : J ≡ later ++ after
  -- the fates that the carrier had given as the pass ended, and those that it gave later
  pub fates : List Fate
  pub others : List Fate
  pub all_given : given ≡ fates ++ others
  pub carried : IsCarried fates after
  pub passes : PassesInOrder s lane before after fates

-- each pass of which the cluster keeps a span did
abbrev pub GoInOrder : Setting → Cell → Type 0
GoInOrder s c = (line : ℕ) (spans : List UpkeepSpan) → spans_of line c.upkeeps ≡ Some spans → (lane : ℕ) (v : LaneValue) (span : UpkeepSpan)
    → slice_get c.lanes lane ≡ Some v → slice_get spans lane ≡ Some span → WentInOrder s lane v.given v.journal span

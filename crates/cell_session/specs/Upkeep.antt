-- What became of the lines that asked for upkeep.
use Rattle.std.specs.Prelude.{◌≡◌, ◌<◌, ◌≤◌, ◌⊎◌, ℕ, suc, List, length, None, Some, IsSome, slice_get}
use Rattle.lane_calls.specs.LaneValues.{LaneValue}
use Rattle.lane_lives.specs.Settings.{lane_count}
use Rattle.lane_lives.specs.declared.setting.Setting.{Setting}
use Rattle.lane_lives.specs.Lives.{Deed}
use Rattle.lane_lives.specs.Serving.{bucket_in}
use Rattle.lane_lives.specs.Upkeep.{SpanStands}
use Rattle.lane_lives.specs.declared.spans.UpkeepSpan.{UpkeepSpan}
use Rattle.session_cluster.specs.Cells.{Cell}
use Rattle.session_cluster.specs.Spans.{spans_of, span_in}
use Rattle.session_cluster.specs.declared.asked.Asked.{Asked}
use Rattle.session_cluster.specs.declared.asked.Asked.TheVariants as command
use Rattle.cell_session.specs.declared.status.Status.{Status}
use Rattle.cell_session.specs.declared.status.Status.TheVariants as status

-- the line has one span a lane, which stands behind these deeds that were done there before, and before what came later; its
-- answer is what its events tell, by the fates that the lane's carrier gave, so it is Rested, Blocked or Disturbed, and where it is Rested each node that serves ran,
-- and the lane was at rest as the span ended
pub record HasStood (s : Setting) (before : ℕ → List Deed) (line : ℕ) (c : Cell) : Type 0 where
  pub spans : List UpkeepSpan
  pub are : spans_of line c.upkeeps ≡ Some spans
  pub count : length spans ≡ lane_count s
  pub stand : (lane : ℕ) (v : LaneValue) (span : UpkeepSpan) → slice_get c.lanes lane ≡ Some v → slice_get spans lane ≡ Some span
      → SpanStands s (bucket_in s lane) (before lane) v.given v.journal span

-- memory wanted as it was the last line
pub record WasCut (end : Status) (asked : List Asked) (line : ℕ) (c : Cell) : Type 0 where
  pub memory : end ≡ status.NoMemory
  pub last : line ≡ length asked
  pub none : spans_of line c.upkeeps ≡ None

-- the line at the place asks for upkeep
abbrev pub AsksAt : ℕ → List Asked → Type 0
AsksAt at asked = slice_get asked at ≡ Some command.Maintain

-- where these deeds were done in each lane before the line at a place
pub record AreUpkept (end : Status) (s : Setting) (before : ℕ → ℕ → List Deed) (asked : List Asked) (c : Cell) : Type 0 where
  -- each line that asks for upkeep has its spans, unless memory wanted
  pub answered : (at : ℕ) → AsksAt at asked → HasStood s (before at) (suc at) c ⊎ WasCut end asked (suc at) c
  -- no other line has
  pub others : (line : ℕ) → IsSome (spans_of line c.upkeeps) → (at : ℕ) × ((line ≡ suc at) × AsksAt at asked)
  -- in each lane that of an earlier line stands before that of a later one
  pub in_order : (lane earlier line : ℕ) → earlier < line → (a b : UpkeepSpan) → span_in lane earlier c.upkeeps ≡ Some a
      → span_in lane line c.upkeeps ≡ Some b → a.to ≤ b.from

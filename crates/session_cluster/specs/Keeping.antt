-- What holds of the lanes between two lines.
use Rattle.std.specs.Prelude.{◌≡◌, ◌<◌, ℕ, ◌+◌, List, [], length, None, Some, slice_get}
use Rattle.carriers.specs.declared.fate.Fate.{Fate}
use Rattle.lane_calls.specs.LaneValues.{LaneValue}
use Rattle.lane_lives.specs.Settings.{lane_count, IsSetting}
use Rattle.lane_lives.specs.declared.setting.Setting.{Setting}
use Rattle.lane_lives.specs.Lives.{Deed, lines_of, states_in, deed_events}
use Rattle.lane_lives.specs.Serving.{IsServing}
use Rattle.session_cluster.specs.Cells.{Cell}
use Rattle.session_cluster.specs.Deeds.{told_of, deeds_of_lane, planned_for}
use Rattle.session_cluster.specs.Searches.{fronts_of}
use Rattle.session_cluster.specs.Spans.{spans_of}
use Rattle.session_cluster.specs.declared.asked.Asked.{Asked}
use Rattle.session_cluster.specs.declared.cluster.LineSpans.{LineSpans}

-- all lanes are there, in each just these deeds were done, and these fates planned
pub record HaveDone (s : Setting) (plans : ℕ → List Fate) (commands : List Asked) (deeds : ℕ → List Deed) (c : Cell) : Type 0 where
  pub bits : c.bits ≡ s.bits
  pub told : c.told ≡ told_of s commands
  pub dealt : c.dealt ≡ length commands
  pub lanes : length c.lanes ≡ lane_count s
  pub serving : (lane : ℕ) (v : LaneValue) → slice_get c.lanes lane ≡ Some v
      → IsServing s (planned_for lane v.takes_plans (plans lane) commands) lane (deeds lane) v
  -- no line that is still to come has spans of upkeep
  pub unkept : (line : ℕ) → c.dealt < line → spans_of line c.upkeeps ≡ None
  -- nor fronts of a search
  pub unread : (line : ℕ) → c.dealt < line → fronts_of line c.fronts ≡ None

-- these are the deeds of the lines so far, one after the other
abbrev pub IsKept : Setting → (ℕ → List Fate) → List Asked → Cell → Type 0
IsKept s plans commands c = HaveDone s plans commands (λ lane. deeds_of_lane s c.upkeeps lane commands) c

-- the deeds are of the same lines as others, and tell the same of states and nodes: they may differ in what ran at once
pub record AreAlike (s : Setting) (deeds others : List Deed) : Type 0 where
  pub lines : lines_of deeds ≡ lines_of others
  pub states : states_in s deeds ≡ states_in s others
  pub events : deed_events s deeds ≡ deed_events s others

-- that is so in each lane of deeds and those of the lines so far, with these spans of upkeep
abbrev pub AreAllAlike : Setting → List LineSpans → List Asked → (ℕ → List Deed) → Type 0
AreAllAlike s us commands deeds = (lane : ℕ) → AreAlike s (deeds lane) (deeds_of_lane s us lane commands)

-- the next line may be dealt with
pub record IsReady (s : Setting) (line : ℕ) (c : Cell) : Type 0 where
  pub setting : IsSetting s
  pub plans : ℕ → List Fate
  pub commands : List Asked
  pub deeds : ℕ → List Deed
  pub done : HaveDone s plans commands deeds c
  pub alike : AreAllAlike s c.upkeeps commands deeds
  pub next : line ≡ length commands + 1

-- so many lanes serve no line yet
pub record AreOpenTo (s : Setting) (plans : ℕ → List Fate) (count : ℕ) (lanes : List LaneValue) : Type 0 where
  pub count_is : length lanes ≡ count
  pub serving : (lane : ℕ) (v : LaneValue) → slice_get lanes lane ≡ Some v → IsServing s (plans lane) lane [] v

-- all lanes do
abbrev pub AreOpen : Setting → (ℕ → List Fate) → List LaneValue → Type 0
AreOpen s plans lanes = AreOpenTo s plans (lane_count s) lanes

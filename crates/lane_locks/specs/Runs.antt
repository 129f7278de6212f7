-- What a segment of the lanes is, from their state before it to that behind it.
use Rattle.std.specs.Prelude.{◌≡◌, ℕ, List, [], Option, None, Some, length, slice_get}
use Rattle.line_feeders.specs.declared.feeder.Feeder.{Feeder}
use Rattle.line_feeders.specs.Calls.{IsAnswer}
use Rattle.line_feeders.specs.Errands.{WereRun}
use Rattle.view_changes.specs.Views.{View}
use Rattle.shelves.specs.Plain.{Plain}
use Rattle.lane_calls.specs.LaneValues.{LaneValue}
use Rattle.lane_calls.specs.Lines.{Lines}
use Rattle.lane_locks.specs.Feeding.{TellsTurn}
use Rattle.lane_locks.specs.Lines.{Listed, AreOfLane, AreFresh}
use Rattle.lane_locks.specs.Served.{AreOver}
use Rattle.lane_locks.specs.Slots.{Behind, IsKept, nothing, no_view}
use Rattle.lane_locks.specs.declared.lanes.ReadyLane.{ReadyLane}
use Rattle.lane_locks.specs.declared.lanes.FedLane.{FedLane}
use Rattle.lane_locks.specs.Lanes.{EachAt}

-- no operation is under way in the lane, and none of the lines, which are of it, has an event there
pub record MayRun (feeders : ℕ) (v : LaneValue) (list : Listed) : Type 0 where
  pub idle : v.under_way ≡ []
  pub feeders_are : list.feeders ≡ feeders
  pub of_lane : AreOfLane v list.lines
  pub fresh : AreFresh v list.lines

-- a lane came by calls of the segment from what it was, with the shelf that it had; no operation is under way there, and
-- how far each line is stands beside it
pub record RanOn {A C D : Type 0} (feeders : ℕ) (old : ReadyLane A Plain C D) (new : FedLane A Plain C D) : Type 0 where
  pub kept : IsKept feeders (old.list).lines (old.lane).lane (new.lane).lane (new.lines).items (new.stages).items
  pub over : AreOver (new.stages).items
  pub idle : ((new.lane).lane).under_way ≡ []
  pub opening : ((new.lane).shelf).opening ≡ ((old.lane).shelf).opening

-- each lane did
abbrev pub RunsOn : {A C D : Type 0} → ℕ → List (ReadyLane A Plain C D) → List (FedLane A Plain C D) → Type 0
RunsOn {A} {C} {D} feeders olds news = (k : ℕ) (old : ReadyLane A Plain C D) (new : FedLane A Plain C D) → slice_get olds k ≡ Some old → slice_get news k ≡ Some new
    → RanOn feeders old new

-- ---- the lanes by number

abbrev pub value_of : {A B C D : Type 0} → Option (ReadyLane A B C D) → LaneValue
value_of None = nothing
value_of (Some r) = (r.lane).lane

abbrev pub list_of : {A B C D : Type 0} → Option (ReadyLane A B C D) → Lines
list_of None = []
list_of (Some r) = (r.list).lines

abbrev pub opening_of : {A C D : Type 0} → Option (ReadyLane A Plain C D) → View
opening_of None = no_view
opening_of (Some r) = ((r.lane).shelf).opening

abbrev pub value_at : {A B C D : Type 0} → List (ReadyLane A B C D) → ℕ → LaneValue
value_at lanes k = value_of (slice_get lanes k)

abbrev pub lines_at : {A B C D : Type 0} → List (ReadyLane A B C D) → ℕ → Lines
lines_at lanes k = list_of (slice_get lanes k)

abbrev pub opening_at : {A C D : Type 0} → List (ReadyLane A Plain C D) → ℕ → View
opening_at lanes k = opening_of (slice_get lanes k)

-- ---- the feeders

-- each feeder ran its lines in order, behind locks of which the one at a place has that number
pub record WereFed (feeders : ℕ) (lines : ℕ → Lines) (count : ℕ) (olds news : List Feeder) : Type 0 where
  pub locks : List ℕ
  pub many : length locks ≡ count
  pub numbers : EachAt (λ k n. n ≡ k) locks
  pub ran : WereRun (IsAnswer (λ (b : Behind Plain). b.number) (λ call place old new told. TellsTurn feeders lines call place old new told)) locks olds news

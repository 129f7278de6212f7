-- The lanes of a segment, without their locks.
use Rattle.std.specs.Prelude.{◌≡◌, ℕ, List, [], Some, slice_get}
use Rattle.lane_calls.specs.LaneValues.{LaneValue}
use Rattle.lane_calls.specs.Lines.{Lines}
use Rattle.lane_core.specs.Shelved.{Shelved}
use Rattle.lane_locks.specs.declared.lines.Line.{Line}
use Rattle.lane_locks.specs.declared.lines.Stage.{Stage}
use Rattle.lane_locks.specs.Lines.{Listed, AreOfLane, AreFresh}
use Rattle.lane_locks.specs.Served.{AreOver}
use Rattle.lane_locks.specs.Slots.{IsKept}

-- each of the list is so at its place
abbrev pub EachAt : {A : Type 0} → (ℕ → A → Type 0) → List A → Type 0
EachAt {A} P xs = (place : ℕ) (x : A) → slice_get xs place ≡ Some x → P place x

-- ---- before

-- it is the lane of that number, as the segment begins there
pub record IsReady {H N : Type 0} (name : H → N) (feeders : ℕ) (began : ℕ → LaneValue) (lines : ℕ → Lines) (shelf : ℕ → N) (number : ℕ) (lane : Shelved H) (list : Listed) : Type 0 where
  pub began_is : lane.lane ≡ began number
  pub idle : (lane.lane).under_way ≡ []
  pub shelf_is : name lane.shelf ≡ shelf number
  pub feeders_are : list.feeders ≡ feeders
  pub lines_are : list.lines ≡ lines number
  pub of_lane : AreOfLane lane.lane list.lines
  pub fresh : AreFresh lane.lane list.lines

-- ---- after

-- it is the lane of its own number, which came by calls of the segment from what it was there; no operation is under way,
-- and how far each line is stands beside it
pub record IsFed {H N : Type 0} (name : H → N) (feeders : ℕ) (began : ℕ → LaneValue) (lines : ℕ → Lines) (shelf : ℕ → N) (number : ℕ) (lane : Shelved H) (ls : List Line) (stages : List Stage) : Type 0 where
  pub shelf_is : name lane.shelf ≡ shelf number
  pub kept : IsKept feeders (lines number) (began number) lane.lane ls stages
  pub over : AreOver stages
  pub idle : (lane.lane).under_way ≡ []

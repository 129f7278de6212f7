-- The lanes of a segment, taken out of a session, and put back.
use Rattle.std.specs.Prelude.{◌≡◌, ℕ, List, [], length, Some, slice_get}
use Rattle.messages.specs.declared.outcome.Outcome.{Outcome}
use Rattle.lane_calls.specs.LaneValues.{LaneValue}
use Rattle.lane_calls.specs.Lines.{FeedLine, Lines}
use Rattle.lane_calls.specs.Readings.{outcome_in}
use Rattle.lane_calls.specs.Segments.{IsSegment}
use Rattle.lane_locks.specs.declared.lines.Stage.{Stage}
use Rattle.lane_locks.specs.Lines.{Listed}
use Rattle.lane_locks.specs.Runs.{MayRun}
use Rattle.session_cluster.specs.Cells.{ShownLane}
use Rattle.session_segments.specs.Sorted.{outcome_of}

-- each lane may run the lines of its list
abbrev pub MayAllRun : ℕ → List LaneValue → List Listed → Type 0
MayAllRun feeders vs lists = (lane : ℕ) (v : LaneValue) (list : Listed) → slice_get vs lane ≡ Some v → slice_get lists lane ≡ Some list → MayRun feeders v list

-- the lane came by calls for the lines to what it is, its shelf showed the same at first, and how far the lines are stands
-- beside them
pub record HasRun (feeders : ℕ) (lines : Lines) (old new : ShownLane) (stages : List Stage) : Type 0 where
  pub segment : IsSegment feeders lines old.lane new.lane
  pub idle : (new.lane).under_way ≡ []
  pub opening : (new.shelf).opening ≡ (old.shelf).opening
  pub many : length stages ≡ length lines
  pub told : (at : ℕ) (line : FeedLine) (s : Stage) (x : Outcome) → slice_get lines at ≡ Some line → slice_get stages at ≡ Some s → outcome_of s ≡ Some x
      → outcome_in line.number (new.lane).journal ≡ Some x

-- each lane did so
pub record HaveAllRun (feeders : ℕ) (olds : List ShownLane) (lists : List Listed) (news : List ShownLane) (stages : List (List Stage)) : Type 0 where
  pub count : length news ≡ length olds
  pub many : length stages ≡ length olds
  pub each : (lane : ℕ) (old new : ShownLane) (list : Listed) (of_lane : List Stage) → slice_get olds lane ≡ Some old → slice_get news lane ≡ Some new
      → slice_get lists lane ≡ Some list → slice_get stages lane ≡ Some of_lane → HasRun feeders list.lines old new of_lane

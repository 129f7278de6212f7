-- How far the lines of a segment are, as their lane says.
use Rattle.std.specs.Prelude.{◌≡◌, ◌&&◌, ℕ, Bool, true, false, List, length, Option, None, Some, slice_get}
use Rattle.lane_journals.specs.Meanings.{history}
use Rattle.lane_keeping.specs.Lines.{IsFresh}
use Rattle.lane_calls.specs.LaneValues.{LaneValue, MayAdvance, MayClose}
use Rattle.lane_calls.specs.Lines.{Lines}
use Rattle.lane_calls.specs.Readings.{outcome_in}
use Rattle.lane_calls.specs.Segments.{HasTurn, IsSegment}
use Rattle.lane_locks.specs.declared.lines.Line.{Line}
use Rattle.lane_locks.specs.declared.lines.Stage.{Stage}
use Rattle.lane_locks.specs.declared.lines.Stage.TheVariants.{Waiting, Going, Ending, Answered}
use Rattle.lane_locks.specs.Lines.{line_of}

abbrev pub StageIs : LaneValue → ℕ → Stage → Type 0
StageIs v n Waiting = IsFresh (history v.journal) n
StageIs v n Going = MayAdvance n v.under_way
StageIs v n Ending = MayClose n v.under_way
StageIs v n (Answered x) = outcome_in n v.journal ≡ Some x

-- it began, or was refused
abbrev pub HasStarted : Stage → Type 0
HasStarted Waiting = ⊥
HasStarted Going = Unit {0}
HasStarted Ending = Unit {0}
HasStarted (Answered x) = Unit {0}

-- each line is as far as its stage says, and one that started had its turn
pub record AreStages (feeders : ℕ) (lines : Lines) (v : LaneValue) (ls : List Line) (stages : List Stage) : Type 0 where
  pub many : length stages ≡ length ls
  pub each : (at : ℕ) (l : Line) (s : Stage) → slice_get ls at ≡ Some l → slice_get stages at ≡ Some s → StageIs v l.number s
  pub turns : (at : ℕ) (l : Line) (s : Stage) → slice_get ls at ≡ Some l → slice_get stages at ≡ Some s → HasStarted s → HasTurn feeders lines (line_of l) v.journal

-- its operation is under way
abbrev pub is_under_way : Stage → Bool
is_under_way Waiting = false
is_under_way Going = true
is_under_way Ending = true
is_under_way (Answered x) = false

-- each line has its outcome, or hasn't begun
abbrev pub AreOver : List Stage → Type 0
AreOver stages = (at : ℕ) (s : Stage) → slice_get stages at ≡ Some s → is_under_way s ≡ false

-- the lane came by calls for the lines from the one value to the other
pub record IsRunSoFar (feeders : ℕ) (lines : Lines) (first v : LaneValue) (ls : List Line) (stages : List Stage) : Type 0 where
  pub segment : IsSegment feeders lines first v
  pub stages_are : AreStages feeders lines v ls stages

-- ---- what is tested

abbrev pub is_answered : Option Stage → Bool
is_answered (Some (Answered x)) = true
is_answered (Some Waiting) = false
is_answered (Some Going) = false
is_answered (Some Ending) = false
is_answered None = false

abbrev pub is_going : Option Stage → Bool
is_going (Some Going) = true
is_going (Some Waiting) = false
is_going (Some Ending) = false
is_going (Some (Answered x)) = false
is_going None = false

abbrev pub is_ending : Option Stage → Bool
is_ending (Some Ending) = true
is_ending (Some Waiting) = false
is_ending (Some Going) = false
is_ending (Some (Answered x)) = false
is_ending None = false

abbrev pub is_waiting : Option Stage → Bool
is_waiting (Some Waiting) = true
is_waiting (Some Going) = false
is_waiting (Some Ending) = false
is_waiting (Some (Answered x)) = false
is_waiting None = false

-- there is none before it, or that one has its outcome
abbrev pub came : List Stage → Option ℕ → Bool
came stages None = true
came stages (Some k) = is_answered (slice_get stages k)

-- a line that waits has its turn
abbrev pub may_begin : Option Line → Option Stage → List Stage → Bool
may_begin None s stages = false
may_begin (Some l) s stages = is_waiting s && came stages l.before

-- What a call for the line at a place does to its lane.
use Rattle.std.specs.Prelude.{◌≡◌, ◌⊎◌, ℕ, List, Some, slice_get, slice_set}
use Rattle.messages.specs.declared.outcome.Outcome.{Outcome}
use Rattle.lane_calls.specs.declared.answers.Begin.{Begin}
use Rattle.lane_calls.specs.declared.answers.Begin.TheVariants as begin
use Rattle.lane_calls.specs.declared.answers.Advance.{Advance}
use Rattle.lane_calls.specs.declared.answers.Advance.TheVariants as advance
use Rattle.lane_calls.specs.LaneValues.{LaneValue, MayAdvance, MayClose, Closes}
use Rattle.lane_calls.specs.Lines.{FeedLine, Lines}
use Rattle.lane_core.specs.Advancing.{IsAdvance}
use Rattle.lane_calls.specs.Segments.{IsNext, BeginsAs}
use Rattle.lane_locks.specs.declared.lines.Stage.{Stage}
use Rattle.lane_locks.specs.declared.lines.Stage.TheVariants.{Going, Ending, Answered}
use Rattle.lane_locks.specs.declared.slot.Turn.{Turn}
use Rattle.lane_locks.specs.declared.slot.Turn.TheVariants as turn

-- of the line at the place, if there is one, this doesn't hold, and nothing is done
pub record IsLeft (lines : Lines) (place : ℕ) (P : FeedLine → Type 0) (v w : LaneValue) (now : Turn) : Type 0 where
  pub none : (line : FeedLine) → slice_get lines place ≡ Some line → P line → ⊥
  pub same : w ≡ v
  pub left : now ≡ turn.Left

-- ---- begin

abbrev pub turn_of_begin : Begin → Turn
turn_of_begin begin.Begun = turn.On
turn_of_begin (begin.Refused x) = turn.Over
turn_of_begin (begin.Held by) = turn.Waits by
turn_of_begin begin.NoMemory = turn.NoMemory

abbrev pub stages_begun : ℕ → Begin → List Stage → List Stage
stages_begun place begin.Begun stages = slice_set stages place Going
stages_begun place (begin.Refused x) stages = slice_set stages place (Answered x)
stages_begun place (begin.Held by) stages = stages
stages_begun place begin.NoMemory stages = stages

-- the line at the place, of which it is the turn, is to begin
pub record IsBegunAt (feeders : ℕ) (lines : Lines) (place : ℕ) (v w : LaneValue) (now : Turn) : Type 0 where
  pub line : FeedLine
  pub found : slice_get lines place ≡ Some line
  pub next : IsNext feeders lines line v.journal
  pub answer : Begin
  pub begins : BeginsAs line line.via v w answer
  pub turn_is : now ≡ turn_of_begin answer

-- it is left exactly where it isn't its turn
abbrev pub BeginsAt : ℕ → Lines → ℕ → LaneValue → LaneValue → Turn → Type 0
BeginsAt feeders lines place v w now = IsBegunAt feeders lines place v w now ⊎ IsLeft lines place (λ line. IsNext feeders lines line v.journal) v w now

-- ---- advance

abbrev pub turn_of_advance : Advance → Turn
turn_of_advance advance.More = turn.On
turn_of_advance (advance.Waits by) = turn.Waits by
turn_of_advance advance.Done = turn.Ends
turn_of_advance advance.NoMemory = turn.Ends

abbrev pub stages_gone : ℕ → Advance → List Stage → List Stage
stages_gone place advance.More stages = stages
stages_gone place (advance.Waits by) stages = stages
stages_gone place advance.Done stages = slice_set stages place Ending
stages_gone place advance.NoMemory stages = slice_set stages place Ending

-- the operation of the line at the place goes on
pub record IsGoneOnAt (lines : Lines) (place : ℕ) (v w : LaneValue) (now : Turn) : Type 0 where
  pub line : FeedLine
  pub found : slice_get lines place ≡ Some line
  pub answer : Advance
  pub advances : IsAdvance line.number v w answer
  pub turn_is : now ≡ turn_of_advance answer

-- it is left exactly where it doesn't want to go on
abbrev pub AdvancesAt : Lines → ℕ → LaneValue → LaneValue → Turn → Type 0
AdvancesAt lines place v w now = IsGoneOnAt lines place v w now ⊎ IsLeft lines place (λ line. MayAdvance line.number v.under_way) v w now

-- ---- close

-- the line at the place is closed
pub record IsClosedAt (lines : Lines) (place : ℕ) (v w : LaneValue) (now : Turn) : Type 0 where
  pub line : FeedLine
  pub found : slice_get lines place ≡ Some line
  pub outcome : Outcome
  pub closes : Closes line.number outcome v w
  pub over : now ≡ turn.Over

-- it is left exactly where it isn't to be closed
abbrev pub ClosesAt : Lines → ℕ → LaneValue → LaneValue → Turn → Type 0
ClosesAt lines place v w now = IsClosedAt lines place v w now ⊎ IsLeft lines place (λ line. MayClose line.number v.under_way) v w now

-- What feeders call of a slot, and what they are told.
use Rattle.std.specs.Prelude.{◌≡◌, ℕ}
use Rattle.line_feeders.specs.Calls.{Call, Begins, Advances, Closes}
use Rattle.line_feeders.specs.declared.turns.Went.{Went}
use Rattle.line_feeders.specs.declared.turns.Went.TheVariants as went
use Rattle.lane_calls.specs.LaneValues.{LaneValue}
use Rattle.lane_calls.specs.Lines.{Lines}
use Rattle.lane_locks.specs.declared.slot.Turn.{Turn}
use Rattle.lane_locks.specs.declared.slot.Turn.TheVariants as turn
use Rattle.lane_locks.specs.Slots.{Behind}
use Rattle.lane_locks.specs.Turns.{BeginsAt, AdvancesAt, ClosesAt}

abbrev pub went_of : Turn → Went
went_of turn.On = went.On
went_of (turn.Waits by) = went.Waits
went_of turn.Ends = went.Ends
went_of turn.Over = went.Over
went_of turn.Left = went.Left
went_of turn.NoMemory = went.Left

-- a call for the line at a place does this to its lane
abbrev pub TurnsAt : ℕ → Lines → Call → ℕ → LaneValue → LaneValue → Turn → Type 0
TurnsAt feeders lines Begins place v w now = BeginsAt feeders lines place v w now
TurnsAt feeders lines Advances place v w now = AdvancesAt lines place v w now
TurnsAt feeders lines Closes place v w now = ClosesAt lines place v w now

-- and so much of it is told
pub record TellsTurn {H : Type 0} (feeders : ℕ) (lines : ℕ → Lines) (call : Call) (place : ℕ) (old new : Behind H) (told : Went) : Type 0 where
  pub number : new.number ≡ old.number
  pub now : Turn
  pub turns : TurnsAt feeders (lines old.number) call place (old.lane).lane (new.lane).lane now
  pub told_is : told ≡ went_of now

-- The events of a line: which are of none, or of no line but perhaps others; and lines without one.
use Rattle.std.specs.Prelude.{◌≡◌, ◌≢◌, ℕ, Bool, false, Option, None}
use Rattle.lane_journals.specs.Readers.{Journal, Beginning, Preparing, began, refused, prepared, wrote, closed}
use Rattle.lane_journals.specs.declared.event.LaneEvent.{LaneEvent}
use Rattle.lane_journals.specs.declared.event.LaneEvent.TheVariants.{Begun, Refused, Prepared, Wrote, Closed}

-- the event is of no line, and of no line but perhaps others
abbrev pub IsOfNoLine : LaneEvent → Type 0
IsOfNoLine (Begun l d v id s) = ⊥
IsOfNoLine (Refused l d outcome) = ⊥
IsOfNoLine (Prepared l b set) = ⊥
IsOfNoLine (Wrote l entry) = ⊥
IsOfNoLine (Closed l outcome) = ⊥
IsOfNoLine _ = Unit {0}

abbrev pub IsNotOf : ℕ → LaneEvent → Type 0
IsNotOf line (Begun l d v id s) = l ≢ line
IsNotOf line (Refused l d outcome) = l ≢ line
IsNotOf line (Prepared l b set) = l ≢ line
IsNotOf line (Wrote l entry) = l ≢ line
IsNotOf line (Closed l outcome) = l ≢ line
IsNotOf line _ = Unit {0}

pub record IsUnused (begun : Option Beginning) (was_refused : Bool) (preparing : Option Preparing) (has_written is_closed : Bool) : Type 0 where
  pub unbegun : begun ≡ None
  pub unrefused : was_refused ≡ false
  pub unprepared : preparing ≡ None
  pub unwritten : has_written ≡ false
  pub unclosed : is_closed ≡ false

-- the line has no event
abbrev pub IsFresh : Journal → ℕ → Type 0
IsFresh H line = IsUnused (began line H) (refused line H) (prepared line H) (wrote line H) (closed line H)

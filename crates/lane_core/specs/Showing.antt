-- What a lane shows: to searches, and of its rows.
use Rattle.std.specs.Prelude.{◌≡◌, ◌<◌, ℕ, List, [], Some, length}
use Rattle.bucket_db.specs.declared.row.Row.{Row}
use Rattle.lane_changes.specs.Changes.{changes_of}
use Rattle.view_changes.specs.Opening.{opening}
use Rattle.view_changes.specs.Views.{View, view_after}
use Rattle.view_changes.specs.declared.change.LaneChange.{LaneChange}
use Rattle.lane_journals.specs.Meanings.{history}
use Rattle.lane_journals.specs.Readers.{held}
use Rattle.lane_journals.specs.declared.event.LaneEvent.{LaneEvent}
use Rattle.lane_calls.specs.LaneValues.{LaneValue}
use Rattle.lane_states.specs.Accepting.{AreRowsAccepted}
use Rattle.lane_core.specs.Shelved.{Shelved}

-- ---- to searches

-- how many changes its journal gives
abbrev pub all_changes : LaneValue → ℕ
all_changes v = length (changes_of v.journal)

-- the view after all of them
abbrev pub view_in : LaneValue → View
view_in v = view_after (opening v.types) (changes_of v.journal)

-- its shelf shows all of them, which a view can count, and has none pending
pub record IsSettled {H : Type 0} (shows : H → List LaneChange → Type 0) (pending : H → List LaneChange) (s : Shelved H) : Type 0 where
  pub shown : shows s.shelf (changes_of (s.lane).journal)
  pub none : pending s.shelf ≡ []
  pub few : all_changes s.lane < 18446744073709551615

-- ---- of its rows

-- where a row of a distributor says that its activation was accepted, it has an active node, and that accepted Activates of
-- the version that the distributor holds, over each key of the row
abbrev pub AreActivated : ℕ → List LaneEvent → List Row → Type 0
AreActivated d J rows = (v : ℕ) → held d (history J) ≡ Some v → AreRowsAccepted v (history J) rows

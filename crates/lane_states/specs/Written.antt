-- Where the entries of a journal stand that were written.
use Rattle.std.specs.Prelude.{◌≡◌, ◌++◌, ℕ, Bool, true, false, List, Option, Some, None, slice_get}
use Rattle.std.specs.List.{list_any}
use Rattle.stamps.specs.declared.stamp.Stamp.{Stamp}
use Rattle.documents.specs.declared.entry.Entry.{Entry}
use Rattle.lane_journals.specs.Stamps.{same_stamp}
use Rattle.lane_journals.specs.Readers.{only_if}
use Rattle.lane_journals.specs.Meanings.{entry_at}
use Rattle.lane_journals.specs.KeptJournals.{past}
use Rattle.lane_journals.specs.declared.event.LaneEvent.{LaneEvent}
use Rattle.lane_journals.specs.declared.event.LaneEvent.TheVariants.{Wrote}

-- the entry of an event, if it was written with the stamp
abbrev pub entry_of : Stamp → Option LaneEvent → Option Entry
entry_of s (Some (Wrote line e)) = only_if (same_stamp e.stamp s) e
entry_of s _ = None

-- the event at a place, if there is one
abbrev pub event_at : List LaneEvent → Option ℕ → Option LaneEvent
event_at events None = None
event_at events (Some place) = slice_get events place

-- each entry stands at the place that is kept for its stamp; at the place of a stamp with which nothing was written
-- stands something else, or nothing yet
abbrev pub FindsEntries : (Stamp → Option ℕ) → List LaneEvent → Type 0
FindsEntries place events = (s : Stamp) → entry_of s (event_at events (place s)) ≡ entry_at s (past events)

abbrev pub writes_entry : LaneEvent → Bool
writes_entry (Wrote line e) = true
writes_entry _ = false

-- the journal grew by events that write no entry
pub record AddsNoEntry (J K : List LaneEvent) : Type 0 where
  pub events : List LaneEvent
  pub grown : K ≡ events ++ J
  pub none : list_any writes_entry events ≡ false

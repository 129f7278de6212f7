-- The lanes of a cluster.
use Rattle.std.specs.Prelude.{◌≡◌, ◌<◌, ℕ, true, List, [], length, slice_index_or, IsSome}
use Rattle.global_ids.specs.Keys.{key_of, lane_of}
use Rattle.lane_journals.specs.Readers.{began, closed, before_line}
use Rattle.lane_journals.specs.Meanings.{history}
use Rattle.lane_journals.specs.KeptJournals.{IsLegal}
use Rattle.lane_journals.specs.declared.event.LaneEvent.{LaneEvent}
use Rattle.lane_keeping.specs.LaneKeeping.{setting_of}
use Rattle.lane_lives.specs.declared.setting.Setting.{Setting}
use Rattle.lane_calls.specs.Readings.{told_events}
use Rattle.lane_lives.specs.Serving.{bucket_in}

abbrev pub Journal : Type 0
Journal = List LaneEvent

-- the lane of a document: that of its key
unfoldable pub lane_of_id : ℕ → List ℕ → ℕ
lane_of_id bits id = lane_of (key_of id) bits

-- the journal of a lane; that of a lane that isn't there is empty
abbrev pub journal_in : ℕ → List Journal → Journal
journal_in lane Js = slice_index_or Js lane []

-- the journal of each lane is legal, as the lane is set up
abbrev pub AreLegal : Setting → List Journal → Type 0
AreLegal s Js = (lane : ℕ) → IsLegal (setting_of (bucket_in s lane) s.rules) (journal_in lane Js)

-- of two lines that began in one lane the earlier is closed before the later begins
abbrev pub AreInOrder : List Journal → Type 0
AreInOrder Js = (lane earlier line : ℕ) → earlier < line
    → IsSome (began earlier (history (journal_in lane Js))) → IsSome (began line (history (journal_in lane Js)))
    → closed earlier (before_line line (history (journal_in lane Js))) ≡ true

-- the events of states, stops and starts are the same in every lane, in one order
abbrev pub AreTogether : List Journal → Type 0
AreTogether Js = (lane other : ℕ) → lane < length Js → other < length Js → told_events (journal_in lane Js) ≡ told_events (journal_in other Js)

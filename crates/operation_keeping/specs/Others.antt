-- What others do while the operation of a line is under way: events of other lines and of no line, and messages that
-- neither read nor store the line's document.
use Rattle.std.specs.Prelude.{◌≡◌, ◌≢◌, ℕ, List, ◌∷◌, Some}
use Rattle.lane_journals.specs.Buckets.{Id}
use Rattle.lane_journals.specs.Events.{Body, ReadDoc, Store}
use Rattle.lane_journals.specs.Readers.{Message, sent}
use Rattle.lane_journals.specs.Meanings.{history, meaning_body}
use Rattle.lane_journals.specs.declared.event.LaneEvent.{LaneEvent}
use Rattle.lane_journals.specs.declared.event.LaneEvent.TheVariants.{Begun, Refused, Prepared, Wrote, Sent, Returned, Closed}

-- neither a Read of the document alone nor a Store of it
abbrev pub IsNotAbout : Id → Body → Type 0
IsNotAbout id (ReadDoc i) = i ≢ id
IsNotAbout id (Store i stamp) = i ≢ id
IsNotAbout id _ = Unit {0}

-- the event, which comes next in the journal, is another line's or none's, and of no message about the document but a
-- delivery
abbrev pub IsAnothers : ℕ → Id → List LaneEvent → LaneEvent → Type 0
IsAnothers line id J (Begun l d v i stamp) = l ≢ line
IsAnothers line id J (Refused l d outcome) = l ≢ line
IsAnothers line id J (Prepared l row recipients) = l ≢ line
IsAnothers line id J (Wrote l entry) = l ≢ line
IsAnothers line id J (Closed l outcome) = l ≢ line
IsAnothers line id J (Sent n v d to body) = IsNotAbout id (meaning_body J body)
IsAnothers line id J (Returned n) = (m : Message) → sent n (history J) ≡ Some m → IsNotAbout id m.body
IsAnothers line id J _ = Unit {0}

-- the journal grew by such events alone
pub data AreOthers (line : ℕ) (id : Id) (J : List LaneEvent) : List LaneEvent → Type 0 where
  Same : AreOthers line id J J
  More : (e : LaneEvent) (K : List LaneEvent) → AreOthers line id J K → IsAnothers line id K e → AreOthers line id J (e ∷ K)

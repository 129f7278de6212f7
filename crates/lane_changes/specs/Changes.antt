-- Which changes of what is seen of a lane its events give, oldest first.
use Rattle.std.specs.Prelude.{◌++◌, List, [], ◌∷◌, Option, None, Some}
use Rattle.messages.specs.declared.noted.NotedReply.{NotedReply}
use Rattle.view_changes.specs.Shown.{adopt}
use Rattle.view_changes.specs.Deeds.{adoption, changes_of as changes_told}
use Rattle.view_changes.specs.declared.change.LaneChange.{LaneChange}
use Rattle.view_changes.specs.declared.change.LaneChange.TheVariants.{Stop, Start}
use Rattle.lane_journals.specs.declared.event.LaneEvent.{LaneEvent}
use Rattle.lane_journals.specs.declared.event.LaneEvent.TheVariants.{Delivered, Stopped, Started}
use Rattle.lane_changes.specs.Deliveries.{NotedMessage, noted_message, deed_by, keeping}

-- of a message with this reply: an Adopt where the version rose, whatever the reply, and then what was accepted
abbrev pub changes_at : List LaneEvent → NotedReply → Option NotedMessage → List LaneChange
changes_at J r None = []
changes_at J r (Some m) = adoption m.receiver m.version (keeping m.receiver J) ++ changes_told m.receiver (adopt m.version (keeping m.receiver J)) (deed_by J m.body r)

-- of an event after the journal
abbrev pub changes_by : List LaneEvent → LaneEvent → List LaneChange
changes_by J (Delivered k r) = changes_at J r (noted_message k J)
changes_by J (Stopped n) = Stop n ∷ []
changes_by J (Started n) = Start n ∷ []
changes_by J _ = []

-- of all events
abbrev pub changes_of : List LaneEvent → List LaneChange
changes_of [] = []
changes_of (e ∷ J) = changes_of J ++ changes_by J e

-- ---- which events give none

-- it is no delivery, and no node stops or starts
abbrev pub TellsNothing : LaneEvent → Type 0
TellsNothing (Delivered k r) = ⊥
TellsNothing (Stopped n) = ⊥
TellsNothing (Started n) = ⊥
TellsNothing _ = Unit {0}

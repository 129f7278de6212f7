-- A message that says something of a row, and what came back of it.
use Rattle.std.specs.Prelude.{◌≡◌, ℕ, true, List, Some}
use Rattle.messages.specs.Noting.{noted_reply}
use Rattle.messages.specs.declared.body.Body.{Body}
use Rattle.messages.specs.declared.body.Body.TheVariants.{Delete, Split, Join, Ready, Activate}
use Rattle.messages.specs.declared.reply.Reply.{Reply}
use Rattle.lane_journals.specs.Readers.{Message, sent, first_reply, returned}
use Rattle.lane_journals.specs.Meanings.{history, meaning_reply}
use Rattle.lane_journals.specs.declared.event.LaneEvent.{LaneEvent}
use Rattle.lane_keeping.specs.Flights.{meant}

-- neither an Ask nor of a round or of a line
abbrev pub IsRowBody : Body → Type 0
IsRowBody (Delete b serial) = Unit {0}
IsRowBody (Split b) = Unit {0}
IsRowBody (Join b) = Unit {0}
IsRowBody (Ready b) = Unit {0}
IsRowBody (Activate b) = Unit {0}
IsRowBody _ = ⊥

-- a message with the body was sent to the node under the version, and came back with this as its first reply
pub record IsAnsweredBy (J : List LaneEvent) (v node : ℕ) (body : Body) (reply : Reply) : Type 0 where
  pub number : ℕ
  pub message : Message
  pub was_sent : sent number (history J) ≡ Some message
  pub version : message.version ≡ v
  pub receiver : message.receiver ≡ node
  pub body_is : message.body ≡ meant body
  -- the journal as it was delivered
  pub before : List LaneEvent
  pub replied : first_reply number (history J) ≡ Some (meaning_reply before (noted_reply reply))
  pub back : returned number (history J) ≡ true

-- the first reply to the message with this number
pub record IsFirstReply (J : List LaneEvent) (number : ℕ) (reply : Reply) : Type 0 where
  -- the journal as it was delivered
  pub before : List LaneEvent
  pub is : first_reply number (history J) ≡ Some (meaning_reply before (noted_reply reply))

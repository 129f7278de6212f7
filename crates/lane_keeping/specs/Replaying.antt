-- What the laws say: nodes are what the journal of their lane says, and stay so.
use Rattle.std.specs.Prelude.{◌≡◌, ◌==◌, ℕ, false, List, if◌then◌else◌}
use Rattle.messages.specs.declared.message.Message.{Message}
use Rattle.messages.specs.declared.reply.Reply.{Reply}
use Rattle.messages.specs.Noting.{noted_body, noted_reply}
use Rattle.node_model.specs.Nodes.{Node}
use Rattle.node_model.specs.Takes.{Takes}
use Rattle.lane_journals.specs.Readers.{stopped}
use Rattle.lane_journals.specs.Meanings.{history}
use Rattle.lane_journals.specs.Places.{Setting}
use Rattle.lane_journals.specs.KeptJournals.{IsLegal}
use Rattle.lane_journals.specs.declared.event.LaneEvent.{LaneEvent}
use Rattle.lane_journals.specs.declared.event.LaneEvent.TheVariants.{Sent, Delivered}
use Rattle.lane_keeping.specs.NodeKeeping.{NodeKeeps}
use Rattle.lane_keeping.specs.Flights.{IsInFlight}

-- any event but a delivery
abbrev pub IsNoDelivery : LaneEvent → Type 0
IsNoDelivery (Delivered k r) = ⊥
IsNoDelivery _ = Unit {0}

-- a running node takes a message that is on its way, and replies
pub record IsTaken (S : Setting) (J : List LaneEvent) (number : ℕ) (m : Message) (x y : Node) (r : Reply) : Type 0 where
  pub legal : IsLegal S J
  pub flight : IsInFlight J number m
  pub runs : stopped m.receiver (history J) ≡ false
  pub keeps : NodeKeeps J m.receiver x
  pub takes : Takes x m y r

-- a law of each message that is taken
abbrev pub OfTaken : (Setting → List LaneEvent → ℕ → Message → Node → Reply → Type 0) → Type 0
OfTaken L = (S : Setting) (J : List LaneEvent) (number : ℕ) (m : Message) (x y : Node) (r : Reply) → IsTaken S J number m x y r → L S J number m y r

-- the delivery of the message with this reply
abbrev pub delivered : ℕ → Reply → LaneEvent
delivered number r = Delivered number (noted_reply r)

-- the event that sends the message
abbrev pub sending : ℕ → Message → LaneEvent
sending number m = Sent number m.version m.sender m.receiver (noted_body m.body)

-- a lane: its journal is legal, and each node is what it says
pub record Replays (S : Setting) (J : List LaneEvent) (nodes : ℕ → Node) : Type 0 where
  pub legal : IsLegal S J
  pub nodes_are : (n : ℕ) → NodeKeeps J n (nodes n)

-- the nodes with another one in the place of one
abbrev pub with_node : ℕ → Node → (ℕ → Node) → ℕ → Node
with_node i y nodes n = if n == i then y else nodes n

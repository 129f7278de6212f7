-- What the nodes of a lane go through while its journal grows: just the deliveries of the span change them.
use Rattle.std.specs.Prelude.{◌≡◌, ◌≢◌, ◌++◌, ℕ, List, [], ◌∷◌}
use Rattle.messages.specs.declared.message.Message.{Message}
use Rattle.messages.specs.declared.reply.Reply.{Reply}
use Rattle.messages.specs.declared.noted.NotedReply.{NotedReply}
use Rattle.messages.specs.Noting.{noted_reply}
use Rattle.node_model.specs.Nodes.{Node}
use Rattle.node_model.specs.Takes.{Takes}
use Rattle.lane_journals.specs.declared.event.LaneEvent.{LaneEvent}
use Rattle.lane_journals.specs.declared.event.LaneEvent.TheVariants.{Delivered}
use Rattle.lane_keeping.specs.NodeKeeping.{NodeKeeps}
use Rattle.lane_keeping.specs.Flights.{IsInFlight}

-- a message that is on its way is taken by its receiver, which is what the journal says, with this reply; the other
-- nodes stay
pub record IsTakenIn (K : List LaneEvent) (old now : ℕ → Node) (number : ℕ) (noted : NotedReply) : Type 0 where
  pub message : Message
  pub reply : Reply
  pub noted_is : noted ≡ noted_reply reply
  pub flight : IsInFlight K number message
  pub keeps : NodeKeeps K message.receiver (old message.receiver)
  pub takes : Takes (old message.receiver) message (now message.receiver) reply
  pub others : (n : ℕ) → n ≢ message.receiver → now n ≡ old n

-- event by event; the newest of them is at the head
abbrev pub GoBy : List LaneEvent → List LaneEvent → (ℕ → Node) → (ℕ → Node) → Type 0
GoBy [] J old now = (n : ℕ) → now n ≡ old n
GoBy (Delivered number noted ∷ N) J old now = (mid : ℕ → Node) × GoBy N J old mid × IsTakenIn (N ++ J) mid now number noted
GoBy (_ ∷ N) J old now = GoBy N J old now

-- the journal grew by some events, and the nodes went through them
pub record NodesGo (J : List LaneEvent) (old : ℕ → Node) (K : List LaneEvent) (now : ℕ → Node) : Type 0 where
  pub span : List LaneEvent
  pub grows : K ≡ span ++ J
  pub went : GoBy span J old now

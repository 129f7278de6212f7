-- What is known while an Ask is under way, and what its delivery and its return leave.
use Rattle.std.specs.Prelude.{◌≡◌, ◌≢◌, ◌==◌, ◌||◌, ◌++◌, ℕ, true, false, List, None, Some}
use Rattle.bucket_ids.specs.Buckets.{Low}
use Rattle.node_sets.specs.Members.{has_node}
use Rattle.cluster_states.specs.declared.cluster_state.ClusterState.{ClusterState}
use Rattle.cluster_states.specs.Publishing.{serves}
use Rattle.ideal_nodes.specs.Placement.{IsOwner}
use Rattle.messages.specs.declared.message.Message.{Message}
use Rattle.messages.specs.declared.body.Body.TheVariants as body
use Rattle.messages.specs.declared.reply.Reply.{Reply}
use Rattle.messages.specs.declared.reply.Reply.TheVariants as reply
use Rattle.node_model.specs.Nodes.{Node}
use Rattle.node_model.specs.Takes.{Takes}
use Rattle.distributor_part.specs.declared.rules.Rules.{Rules}
use Rattle.distributor_part.specs.Parts.{Part}
use Rattle.distributor_part.specs.Steps.{buckets_shown}
use Rattle.lane_journals.specs.Readers.{first_reply, returned}
use Rattle.lane_journals.specs.Meanings.{history}
use Rattle.lane_journals.specs.declared.event.LaneEvent.{LaneEvent}
use Rattle.lane_keeping.specs.Flights.{IsInFlight}
use Rattle.lane_keeping.specs.LaneKeeping.{node_in, part_in}

-- the owner's part, whose state isn't opened, asks a serving node that hasn't answered
pub record IsAsking (lane : Low) (d : ℕ) (p : Part) (m : Message) : Type 0 where
  pub state : ClusterState
  pub heard : p.state ≡ Some state
  pub owner : IsOwner lane state d
  pub unopened : p.rows ≡ None
  pub unanswered : has_node p.answered m.receiver ≡ false
  pub serving : serves state m.receiver ≡ true
  pub body_is : m.body ≡ body.Ask
  pub version_is : m.version ≡ state.version
  pub sender_is : m.sender ≡ d

-- the message was sent, and nothing happened to it yet
pub record IsJustSent (J : List LaneEvent) (number : ℕ) (m : Message) : Type 0 where
  pub flight : IsInFlight J number m
  pub unreplied : first_reply number (history J) ≡ None
  pub unreturned : returned number (history J) ≡ false

-- ---- what a part is told

-- the same state and the same rows
pub record IsAlike (p q : Part) : Type 0 where
  pub number_is : q.number ≡ p.number
  pub lane_is : q.lane ≡ p.lane
  pub rules_are : q.rules ≡ p.rules
  pub state_is : q.state ≡ p.state
  pub rows_are : q.rows ≡ p.rows

-- and the same answers
pub record KnowsTheSame (p q : Part) : Type 0 where
  pub alike : IsAlike p q
  pub answered_is : q.answered ≡ p.answered
  pub shown_is : q.shown ≡ p.shown

-- one node more answered, and showed these buckets
pub record KnowsOneMore (p q : Part) (node : ℕ) (shown : List Low) : Type 0 where
  pub alike : IsAlike p q
  pub marked : (n : ℕ) → has_node q.answered n ≡ (has_node p.answered n || n == node)
  pub shown_is : q.shown ≡ p.shown ++ shown

-- the part is told the node's reply
abbrev pub IsPartTold : Part → Part → ℕ → Reply → Type 0
IsPartTold p q node (reply.Answer pieces entries) = KnowsOneMore p q node (buckets_shown pieces)
IsPartTold p q node (reply.Newer v) = KnowsTheSame p q
IsPartTold p q node reply.NoBucket = KnowsTheSame p q
IsPartTold p q node reply.Differs = KnowsTheSame p q
IsPartTold p q node reply.NoMemory = KnowsTheSame p q

-- ---- what a delivery and a return leave

-- of the nodes just the receiver takes the message
pub record IsTakenBy (nodes now : List Node) (m : Message) (r : Reply) : Type 0 where
  pub takes : Takes (node_in nodes m.receiver) m (node_in now m.receiver) r
  pub others : (n : ℕ) → n ≢ m.receiver → node_in now n ≡ node_in nodes n

-- of the parts just one is another
abbrev pub OthersStay : Low → Rules → List Part → List Part → ℕ → Type 0
OthersStay lane rules parts now d = (e : ℕ) → e ≢ d → part_in lane rules now e ≡ part_in lane rules parts e

-- of the parts just the distributor's is told the reply
pub record IsToldTo (lane : Low) (rules : Rules) (parts now : List Part) (d node : ℕ) (r : Reply) : Type 0 where
  pub told : IsPartTold (part_in lane rules parts d) (part_in lane rules now d) node r
  pub others : OthersStay lane rules parts now d

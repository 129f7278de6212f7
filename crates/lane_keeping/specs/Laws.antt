-- What the laws say of each lane that keeps its journal.
use Rattle.std.specs.Prelude.{◌≡◌, ℕ, ◌+◌, false, List, ◌∷◌, Option}
use Rattle.bucket_ids.specs.Buckets.{Low}
use Rattle.cluster_states.specs.declared.cluster_state.ClusterState.{ClusterState}
use Rattle.messages.specs.declared.message.Message.{Message}
use Rattle.messages.specs.declared.body.Body.{Body}
use Rattle.messages.specs.declared.body.Body.TheVariants as body
use Rattle.messages.specs.declared.decision.Decision.TheVariants.{RoundBegun}
use Rattle.node_model.specs.Nodes.{Node}
use Rattle.distributor_part.specs.declared.rules.Rules.{Rules}
use Rattle.distributor_part.specs.Parts.{Part}
use Rattle.lane_journals.specs.Meanings.{is_acked}
use Rattle.lane_journals.specs.KeptJournals.{IsLegalStep}
use Rattle.lane_journals.specs.declared.event.LaneEvent.{LaneEvent}
use Rattle.lane_journals.specs.declared.event.LaneEvent.TheVariants.{Begun, Refused, Prepared, Wrote, Closed, Decided, Stopped, Started}
use Rattle.lane_keeping.specs.Replaying.{sending}
use Rattle.lane_keeping.specs.LaneKeeping.{setting_of, Keeps}
use Rattle.lane_keeping.specs.Asking.{IsJustSent}

-- a law of all lanes that keep their journal
abbrev pub OfKept : (Low → Rules → List LaneEvent → Option ClusterState → ℕ → List Node → List Part → Type 0) → Type 0
OfKept L = (lane : Low) (rules : Rules) (J : List LaneEvent) (newest : Option ClusterState) (last : ℕ) (nodes : List Node) (parts : List Part)
    → Keeps lane rules J newest last nodes parts → L lane rules J newest last nodes parts

-- ---- events that leave nodes and parts as they are

abbrev pub IsQuietEvent : LaneEvent → Type 0
IsQuietEvent (Begun line d v id stamp) = Unit {0}
IsQuietEvent (Refused line d outcome) = Unit {0}
IsQuietEvent (Prepared line row recipients) = Unit {0}
IsQuietEvent (Wrote line entry) = Unit {0}
-- an acknowledgement takes marks
IsQuietEvent (Closed line outcome) = is_acked outcome ≡ false
IsQuietEvent (Decided d v (RoundBegun bucket receivers)) = Unit {0}
-- a node that is stopped or started keeps what it has
IsQuietEvent (Stopped n) = Unit {0}
IsQuietEvent (Started n) = Unit {0}
IsQuietEvent _ = ⊥

-- any message but an Ask: its reply says nothing of an opening
abbrev pub IsNoAsk : Body → Type 0
IsNoAsk body.Ask = ⊥
IsNoAsk _ = Unit {0}

-- ---- steps

-- the event may come next, and the lane keeps the longer journal
pub record IsKeptNext (lane : Low) (rules : Rules) (J : List LaneEvent) (newest : Option ClusterState) (last : ℕ) (nodes : List Node) (parts : List Part) (e : LaneEvent) : Type 0 where
  pub legal : IsLegalStep (setting_of lane rules) J e
  pub keeps : Keeps lane rules (e ∷ J) newest last nodes parts

-- the message may be sent with the next number, the lane keeps the longer journal, and the message is on its way
pub record IsSentNext (lane : Low) (rules : Rules) (J : List LaneEvent) (newest : Option ClusterState) (last : ℕ) (nodes : List Node) (parts : List Part) (m : Message) : Type 0 where
  pub legal : IsLegalStep (setting_of lane rules) J (sending (last + 1) m)
  pub keeps : Keeps lane rules (sending (last + 1) m ∷ J) newest (last + 1) nodes parts
  pub just : IsJustSent (sending (last + 1) m ∷ J) (last + 1) m

-- What the laws say of each operation that is under way in a lane that keeps its journal.
use Rattle.std.specs.Prelude.{◌≡◌, ℕ, ◌+◌, true, false, List, ◌∷◌, Option, None, Some}
use Rattle.bucket_ids.specs.Buckets.{Low}
use Rattle.node_sets.specs.Members.{has_node}
use Rattle.stamps.specs.declared.stamp.Stamp.{Stamp}
use Rattle.cluster_states.specs.declared.cluster_state.ClusterState.{ClusterState}
use Rattle.documents.specs.declared.entry.Entry.{Entry}
use Rattle.messages.specs.declared.message.Message.{Message}
use Rattle.messages.specs.declared.operation.Operation.{Operation}
use Rattle.node_model.specs.Nodes.{Node}
use Rattle.op_machine.specs.declared.machine.Standing.{Standing}
use Rattle.distributor_part.specs.declared.rules.Rules.{Rules}
use Rattle.lane_journals.specs.Buckets.{Id}
use Rattle.lane_journals.specs.Readers.{Journal, Beginning, began, closed, opened, answered_store}
use Rattle.lane_journals.specs.Endings.{OpeningFellShort}
use Rattle.lane_journals.specs.Meanings.{history, entry_at}
use Rattle.lane_journals.specs.KeptJournals.{IsLegalStep}
use Rattle.lane_journals.specs.declared.event.LaneEvent.{LaneEvent}
use Rattle.lane_journals.specs.declared.event.LaneEvent.TheVariants.{Begun, Wrote}
use Rattle.lane_keeping.specs.Flights.{Brings, IsWhole}
use Rattle.lane_keeping.specs.Replaying.{sending}
use Rattle.lane_keeping.specs.LaneKeeping.{setting_of}
use Rattle.lane_keeping.specs.Laws.{OfKept}
use Rattle.operation_keeping.specs.OperationKeeping.{IsUnderWay, KnowsPreparing, KnowsOperation, KnowsAsked}

-- how many stamps of the version were drawn, after a line that began with this one, if any
abbrev pub drawn : Option Stamp → ℕ → ℕ
drawn None many = many
drawn (Some stamp) many = many + 1

-- no operation of the document is under way
abbrev pub IsFree : Journal → Id → Type 0
IsFree H id = (other : ℕ) (begin : Beginning) → began other H ≡ Some begin → begin.id ≡ id → closed other H ≡ true

-- a law of each operation that isn't prepared yet
abbrev pub OfPreparing : (Low → Rules → List LaneEvent → ℕ → ClusterState → ℕ → Operation → Option Stamp → Type 0) → Type 0
OfPreparing L = OfKept (λ lane rules J newest last nodes parts. (d : ℕ) (s : ClusterState) (line : ℕ) (o : Operation) (stamp : Option Stamp)
    → KnowsPreparing lane (history J) d s line o stamp → L lane rules J d s line o stamp)

-- of each that is under way
abbrev pub OfUnderWay : (Low → Rules → List LaneEvent → ℕ → ClusterState → ℕ → Operation → Option Stamp → Type 0) → Type 0
OfUnderWay L = OfKept (λ lane rules J newest last nodes parts. (d : ℕ) (s : ClusterState) (line : ℕ) (o : Operation) (stamp : Option Stamp)
    → IsUnderWay lane (history J) d s line o stamp → L lane rules J d s line o stamp)

-- of each that is prepared
abbrev pub OfOperation : (Low → Rules → List LaneEvent → ℕ → ℕ → ClusterState → ℕ → Low → Option Entry → Standing → Type 0) → Type 0
OfOperation L = OfKept (λ lane rules J newest last nodes parts. (d : ℕ) (s : ClusterState) (line : ℕ) (row : Low) (written : Option Entry) (t : Standing)
    → KnowsOperation lane rules J d s line row written t → L lane rules J last d s line row written t)

-- and of each that awaits an answer
abbrev pub OfAsked : (Low → Rules → List LaneEvent → List Node → ℕ → ClusterState → ℕ → Low → Option Entry → Standing → ℕ → Message → Type 0) → Type 0
OfAsked L = OfKept (λ lane rules J newest last nodes parts. (d : ℕ) (s : ClusterState) (line : ℕ) (row : Low) (written : Option Entry) (t : Standing) (number : ℕ) (m : Message)
    → KnowsAsked lane rules J d s line row written t number m → L lane rules J nodes d s line row written t number m)

-- the message may be sent with the next number, and its answer is awaited then
pub record MayAskNext (lane : Low) (rules : Rules) (J : List LaneEvent) (last d : ℕ) (s : ClusterState) (line : ℕ) (row : Low) (written : Option Entry) (t : Standing) (m : Message) : Type 0 where
  pub legal : IsLegalStep (setting_of lane rules) J (sending (last + 1) m)
  pub brings : Brings (λ stamp. entry_at stamp J) m.body
  pub whole : IsWhole m.body
  pub asked : KnowsAsked lane rules (sending (last + 1) m ∷ J) d s line row written t (last + 1) m

-- the line may be begun so, and isn't prepared then
pub record MayBeginNext (lane : Low) (rules : Rules) (J : List LaneEvent) (d : ℕ) (s : ClusterState) (line : ℕ) (o : Operation) (stamp : Option Stamp) : Type 0 where
  pub legal : IsLegalStep (setting_of lane rules) J (Begun line d s.version o.id stamp)
  pub preparing : KnowsPreparing lane (history (Begun line d s.version o.id stamp ∷ J)) d s line o stamp

-- the entry may be written, and is what the operation's Stores carry then
pub record MayWriteNext (lane : Low) (rules : Rules) (J : List LaneEvent) (d : ℕ) (s : ClusterState) (line : ℕ) (row : Low) (t : Standing) (e : Entry) : Type 0 where
  pub legal : IsLegalStep (setting_of lane rules) J (Wrote line e)
  pub known : KnowsOperation lane rules (Wrote line e ∷ J) d s line row (Some e) t

-- the line began with the stamp under which it is acknowledged, of which the machine's answers to the Stores are
pub record IsAckedAs (H : Journal) (d : ℕ) (s : ClusterState) (line : ℕ) (t : Standing) (stamp : Stamp) : Type 0 where
  pub stamped : t.plan.stamp ≡ Some stamp
  pub begun : began line H ≡ Some (record { distributor = d; version = s.version; id = t.plan.operation.id; stamp = Some stamp })
  pub answered : (n : ℕ) → has_node t.stores.answered n ≡ answered_store s.version t.plan.operation.id stamp n H

-- the opening of the state isn't over, and so many of all nodes that serve answered
pub record MayLackAnswers (J : List LaneEvent) (v answered needed absent : ℕ) : Type 0 where
  pub unopened : opened v (history J) ≡ false
  pub short : OpeningFellShort (history J) v answered needed absent

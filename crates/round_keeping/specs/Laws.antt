-- What the laws say of a round that is under way in a lane.
use Rattle.std.specs.Prelude.{◌≡◌, ◌<◌, ◌&&◌, not, ℕ, true, false, List, None, Some}
use Rattle.bucket_ids.specs.Buckets.{Low, IsBucket}
use Rattle.node_sets.specs.Members.{has_node, size_of}
use Rattle.cluster_states.specs.declared.cluster_state.ClusterState.{ClusterState}
use Rattle.cluster_states.specs.Publishing.{serves}
use Rattle.messages.specs.declared.body.Body.{Body}
use Rattle.messages.specs.declared.body.Body.TheVariants as body
use Rattle.node_model.specs.Nodes.{Node}
use Rattle.bucket_db.specs.declared.row.Row.{Row}
use Rattle.distributor_part.specs.declared.rules.Rules.{Rules}
use Rattle.distributor_part.specs.Parts.{Part}
use Rattle.distributor_part.specs.Upkeep.{BeginsRoundAt}
use Rattle.merge_rounds.specs.Rounds.{RoundState, did_show}
use Rattle.lane_journals.specs.Buckets.{contains}
use Rattle.lane_journals.specs.Readers.{Message, sent, round_of}
use Rattle.lane_journals.specs.Facts.{Idle}
use Rattle.lane_journals.specs.Meanings.{history}
use Rattle.lane_journals.specs.declared.event.LaneEvent.{LaneEvent}
use Rattle.lane_keeping.specs.LaneKeeping.{part_in}
use Rattle.lane_keeping.specs.Acting.{IsActing, IsKnownRow}
use Rattle.lane_keeping.specs.Laws.{OfKept}
use Rattle.lane_keeping.specs.RoundKeeping.{KnowsAnswers, KnowsRound, NoRound}

-- a law of each round that is under way in a lane
abbrev pub OfRound : (Low → Rules → List LaneEvent → ℕ → List Node → ℕ → ClusterState → RoundState → Type 0) → Type 0
OfRound L = OfKept (λ lane rules J newest last nodes parts. (d : ℕ) (s : ClusterState) (r : RoundState)
    → IsActing lane J d s → KnowsRound lane J d s r → L lane rules J last nodes d s r)

-- a law of each round whose answers are known, be it under way or over
abbrev pub OfAnswers : (Low → Rules → List LaneEvent → ClusterState → RoundState → Type 0) → Type 0
OfAnswers L = OfKept (λ lane rules J newest last nodes parts. (d : ℕ) (s : ClusterState) (r : RoundState)
    → IsActing lane J d s → KnowsAnswers J s r → L lane rules J s r)

-- the owner's part begins a round in the row of a place, which it knows, where nothing is under way
pub record IsBegun (lane : Low) (rules : Rules) (J : List LaneEvent) (parts : List Part) (d : ℕ) (s : ClusterState) (q : Part) (at : ℕ) (bucket : Low) (receivers : ℕ) : Type 0 where
  pub acting : IsActing lane J d s
  pub valid : IsBucket bucket
  pub begins : BeginsRoundAt (part_in lane rules parts d) q at bucket receivers
  pub known : IsKnownRow s.version (history J) begins.row
  pub idle : Idle s.version bucket (history J)
  pub no_round : NoRound J s

-- a law of each round that begins
abbrev pub OfBegun : (Low → Rules → List LaneEvent → ℕ → ClusterState → Low → ℕ → Type 0) → Type 0
OfBegun L = OfKept (λ lane rules J newest last nodes parts. (d : ℕ) (s : ClusterState) (q : Part) (at : ℕ) (bucket : Low) (receivers : ℕ)
    → IsBegun lane rules J parts d s q at bucket receivers → L lane rules J d s bucket receivers)

-- neither the Read of a whole row nor an Apply
abbrev pub IsOfNoRound : Body → Type 0
IsOfNoRound (body.Read b None) = ⊥
IsOfNoRound (body.Apply b entries) = ⊥
IsOfNoRound _ = Unit {0}

-- the message of this number, if one was sent, is of another round or of none
abbrev pub IsOfOther : List LaneEvent → ClusterState → Low → ℕ → Type 0
IsOfOther J s b number = (m : Message) → sent number (history J) ≡ Some m → m.version ≡ s.version → m.round ≡ round_of s.version b (history J) → ⊥

-- ---- who is missing

-- the readers that weren't shown, and those that were
pub record AreUnshown (s : ClusterState) (r : RoundState) (missing shown : ℕ) : Type 0 where
  pub missing_are : (n : ℕ) → has_node missing n ≡ (serves s n && not (did_show n r.shown))
  pub shown_are : (n : ℕ) → has_node shown n ≡ (serves s n && not (has_node missing n))

-- after the round its row has fewer complete members than a write needs, and a receiver isn't a holder
pub record HasTooFew (acks : ℕ) (J : List LaneEvent) (s : ClusterState) (r : RoundState) (key : ℕ) (row : Row) (absent : ℕ) : Type 0 where
  pub known : IsKnownRow s.version (history J) row
  pub same_bucket : row.bucket ≡ r.row
  pub inside : contains r.row key ≡ true
  pub few : size_of row.complete < acks
  pub receiver : has_node r.receivers absent ≡ true
  pub no_holder : has_node r.holders absent ≡ false

-- A line that has its owner's part open the state: what is known between the steps.
use Rattle.std.specs.Prelude.{◌≡◌, ◌↔◌, ◌&&◌, ℕ, Bool, true, false, List, Option, None, Some}
use Rattle.bucket_ids.specs.Buckets.{Low}
use Rattle.node_sets.specs.Members.{has_node}
use Rattle.stamps.specs.declared.stamp.Stamp.{Stamp}
use Rattle.cluster_states.specs.declared.cluster_state.ClusterState.{ClusterState}
use Rattle.messages.specs.declared.operation.Operation.{Operation}
use Rattle.distributor_part.specs.declared.rules.Rules.{Rules}
use Rattle.distributor_part.specs.Parts.{Part}
use Rattle.op_machine.specs.Nodes.{count_nodes}
use Rattle.op_machine.specs.Outcomes.{absent_of}
use Rattle.lane_journals.specs.Readers.{Journal}
use Rattle.lane_journals.specs.Meanings.{history}
use Rattle.lane_journals.specs.declared.event.LaneEvent.{LaneEvent}
use Rattle.operation_keeping.specs.OperationKeeping.{WasShortSince}
use Rattle.operation_keeping.specs.Wants.{WasAskedSince, is_ask, IsRunSince}
use Rattle.lane_lines.specs.declared.readying.Shortage.{Shortage}
use Rattle.lane_lines.specs.declared.readying.Shortage.TheVariants as shortage
use Rattle.lane_lines.specs.Readying.{IsToPrepare, HasSent}

-- the part asked just those to which an Ask was sent since the search began
abbrev pub HasAskedJust : List LaneEvent → Journal → ℕ → Part → Type 0
HasAskedJust J from v p = (n : ℕ) → (has_node p.asked n ≡ true) ↔ WasAskedSince from (history J) v n

-- it is known whether one of those wanted memory
abbrev pub KnowsShort : List LaneEvent → Journal → ℕ → Bool → Type 0
KnowsShort J from v short = (short ≡ true) ↔ WasShortSince from (history J) (is_ask v)

-- the line is still to be prepared, and did what it wanted; it is known whom it asked
pub record KnowsAsking (lane : Low) (rules : Rules) (J : List LaneEvent) (line : ℕ) (o : Operation) (d : ℕ) (s : ClusterState) (stamp : Option Stamp) (K : List LaneEvent) (p : Part) (short : Bool) : Type 0 where
  pub run : IsRunSince lane rules line o (history J) J K
  pub still : IsToPrepare lane K line o d s stamp
  pub heard : p.state ≡ Some s
  pub asked : HasAskedJust K (history J) s.version p
  pub short_is : KnowsShort K (history J) s.version short
  pub sent_stays : HasSent (history J) K

-- ---- the end

-- why the operation ends where these haven't answered: a node wants memory, or too few of those that serve answered
abbrev pub opening_shortage : (ℕ → Bool) → ℕ → ℕ → Bool → Shortage
opening_shortage serving answered missing true = shortage.NoMemory
opening_shortage serving answered missing false = shortage.TooFew (count_nodes (λ n. serving n && has_node answered n)) (count_nodes serving) (absent_of None (has_node missing))

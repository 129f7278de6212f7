-- What a close asks of a lane.
use Rattle.std.specs.Prelude.{◌≡◌, ℕ, true, Some}
use Rattle.bucket_ids.specs.Buckets.{IsIn}
use Rattle.node_sets.specs.Members.{has_node}
use Rattle.stamps.specs.declared.stamp.Stamp.{Stamp}
use Rattle.cluster_states.specs.declared.cluster_state.ClusterState.{ClusterState}
use Rattle.messages.specs.declared.outcome.Outcome.{Outcome}
use Rattle.messages.specs.declared.outcome.Outcome.TheVariants.{Acked}
use Rattle.lane_journals.specs.Buckets.{Id, key_of}
use Rattle.lane_journals.specs.Readers.{began, opened, complete, answered_store}
use Rattle.lane_journals.specs.Meanings.{history}
use Rattle.lane_journals.specs.KeptJournals.{IsLegalStep}
use Rattle.lane_journals.specs.declared.event.LaneEvent.TheVariants.{Closed}
use Rattle.lane_keeping.specs.LaneKeeping.{setting_of}
use Rattle.lane_keeping.specs.Acting.{IsActing}
use Rattle.lane_states.specs.declared.lane_state.LaneState.{LaneState}
use Rattle.lane_states.specs.LaneStates.{journal_of}

-- the line may be closed as acknowledged, and of its row's complete members these answered its Store
pub record MayAcknowledge (c : LaneState) (line d key : ℕ) (stamp : Stamp) (answered : ℕ) : Type 0 where
  pub state : ClusterState
  pub acting : IsActing c.lane (journal_of c) d state
  pub opened_is : opened state.version (history (journal_of c)) ≡ true
  pub id : Id
  pub begun : began line (history (journal_of c)) ≡ Some (record { distributor = d; version = state.version; id = id; stamp = Some stamp })
  pub key_is : key ≡ key_of id
  pub in_lane : IsIn c.lane key
  pub answers : (n : ℕ) → complete state.version n key (history (journal_of c)) ≡ true → has_node answered n ≡ answered_store state.version id stamp n (history (journal_of c))
  pub legal : IsLegalStep (setting_of c.lane c.rules) (journal_of c) (Closed line (Acked stamp))

-- the line may be closed with the outcome
abbrev pub MayEndWith : LaneState → ℕ → ℕ → ℕ → Outcome → ℕ → Type 0
MayEndWith c line d key (Acked stamp) answered = MayAcknowledge c line d key stamp answered
MayEndWith c line d key outcome answered = IsLegalStep (setting_of c.lane c.rules) (journal_of c) (Closed line outcome)

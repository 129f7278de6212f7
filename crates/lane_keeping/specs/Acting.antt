-- The owner under the state that it heard, and the rows that it knows.
use Rattle.std.specs.Prelude.{◌≡◌, ℕ, true, List, Some}
use Rattle.bucket_ids.specs.Buckets.{Low}
use Rattle.node_sets.specs.Members.{has_node}
use Rattle.cluster_states.specs.declared.cluster_state.ClusterState.{ClusterState}
use Rattle.ideal_nodes.specs.Placement.{IsOwner}
use Rattle.bucket_db.specs.declared.row.Row.{Row}
use Rattle.lane_journals.specs.Buckets.{contains}
use Rattle.lane_journals.specs.Readers.{Journal, held, complete, active}
use Rattle.lane_journals.specs.Facts as facts
use Rattle.lane_journals.specs.Meanings.{history}
use Rattle.lane_journals.specs.Places.{state_in}
use Rattle.lane_journals.specs.declared.event.LaneEvent.{LaneEvent}
use Rattle.lane_journals.specs.declared.event.LaneEvent.TheVariants.{Heard}

-- the distributor holds the state, and owns the lane under it
pub record IsActing (lane : Low) (J : List LaneEvent) (d : ℕ) (s : ClusterState) : Type 0 where
  pub holds : held d (history J) ≡ Some s.version
  pub published : state_in s.version J ≡ Some s
  pub owner : IsOwner lane s d

-- any event but that a distributor hears a state
abbrev pub IsNoHearing : LaneEvent → Type 0
IsNoHearing (Heard d v) = ⊥
IsNoHearing _ = Unit {0}

-- a row with its marks is the journal's row at each of its keys
pub record IsKnownRow (v : ℕ) (J : Journal) (row : Row) : Type 0 where
  pub is_row : facts.IsRow v row.bucket J
  pub members : (n key : ℕ) → contains row.bucket key ≡ true → complete v n key J ≡ has_node row.complete n
  pub active_is : (key : ℕ) → contains row.bucket key ≡ true → active v key J ≡ row.active

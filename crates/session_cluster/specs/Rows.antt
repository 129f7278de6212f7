-- The rows that a cluster shows of a lane.
use Rattle.std.specs.Prelude.{◌≡◌, ◌≢◌, ◌⊎◌, ℕ, false, List, [], Option, None, Some, slice_index_or}
use Rattle.bucket_db.specs.declared.row.Row.{Row}
use Rattle.cluster_states.specs.MarkTests.{is_up}
use Rattle.cluster_states.specs.Publishing.{newest_of}
use Rattle.cluster_states.specs.declared.cluster_state.ClusterState.{ClusterState}
use Rattle.cluster_states.specs.declared.marks.Mark.TheVariants.{Down}
use Rattle.global_ids.specs.Keys.{lane_bucket}
use Rattle.ideal_nodes.specs.Placement.{IsOwner}
use Rattle.lane_calls.specs.LaneValues.{LaneValue}
use Rattle.lane_keeping.specs.Shown.{HasRows}
use Rattle.lane_core.specs.Showing.{AreActivated}
use Rattle.lane_journals.specs.Meanings.{history}
use Rattle.lane_journals.specs.Readers.{held}

-- the rows are those of the distributor where it holds the state, and those that say so were accepted by their active
-- nodes; else there are none
abbrev pub AreRowsAt : ClusterState → LaneValue → ℕ → List Row → Type 0
AreRowsAt s v d rows = ((held d (history v.journal) ≡ Some s.version)
    × (HasRows v.lane v.rules v.journal d rows × AreActivated d v.journal rows))
    ⊎ ((held d (history v.journal) ≢ Some s.version) × (rows ≡ []))

-- those of the distributor that owns the lane under a state
pub record AreOwnRows (bits lane : ℕ) (s : ClusterState) (v : LaneValue) (rows : List Row) : Type 0 where
  pub owner : ℕ
  pub owns : IsOwner (lane_bucket bits lane) s owner
  pub are : AreRowsAt s v owner rows

abbrev pub NoneIsUp : ClusterState → Type 0
NoneIsUp s = (d : ℕ) → is_up (slice_index_or s.distributors d Down) ≡ false

-- under a state, none where no distributor is up
abbrev pub ShowsRowsUnder : ℕ → ℕ → Option ClusterState → LaneValue → List Row → Type 0
ShowsRowsUnder bits lane None v rows = rows ≡ []
ShowsRowsUnder bits lane (Some s) v rows = AreOwnRows bits lane s v rows ⊎ (NoneIsUp s × (rows ≡ []))

-- under the newest state, none where the lane isn't there
abbrev pub ShowsRows : ℕ → ℕ → List ClusterState → Option LaneValue → List Row → Type 0
ShowsRows bits lane states None rows = rows ≡ []
ShowsRows bits lane states (Some v) rows = ShowsRowsUnder bits lane (newest_of states) v rows

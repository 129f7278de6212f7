-- A row in which a round may be run.
use Rattle.std.specs.Prelude.{◌≡◌, ◌<◌, ℕ, true, List}
use Rattle.node_sets.specs.Members.{size_of}
use Rattle.cluster_states.specs.declared.cluster_state.ClusterState.{ClusterState}
use Rattle.bucket_db.specs.declared.row.Row.{Row}
use Rattle.lane_journals.specs.Buckets.{contains}
use Rattle.lane_journals.specs.Facts.{Idle}
use Rattle.lane_journals.specs.Meanings.{history}
use Rattle.lane_journals.specs.declared.event.LaneEvent.{LaneEvent}
use Rattle.lane_keeping.specs.Acting.{IsKnownRow}

-- where the row of the key has too few complete members, no operation is prepared in it
abbrev pub IsRowFree : List LaneEvent → ClusterState → ℕ → ℕ → Type 0
IsRowFree J s acks key = (row : Row) → IsKnownRow s.version (history J) row → contains row.bucket key ≡ true → size_of row.complete < acks → Idle s.version row.bucket (history J)

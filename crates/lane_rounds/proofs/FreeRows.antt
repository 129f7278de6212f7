-- A round that a part begins is begun in a row where no operation is prepared.
use Rattle.std.proofs.Common.{◌≡◌, ◌<◌, ℕ, true, List, Some, sym, subst}
use Rattle.bucket_ids.specs.Buckets.{Low}
use Rattle.node_sets.specs.Members.{size_of}
use Rattle.cluster_states.specs.declared.cluster_state.ClusterState.{ClusterState}
use Rattle.bucket_db.specs.Rows.{Rows}
use Rattle.bucket_db.specs.declared.row.Row.{Row}
use Rattle.distributor_part.specs.Parts.{Part}
use Rattle.distributor_part.specs.Steps.{BeginsRound, IsRowOf}
use Rattle.distributor_part.specs.declared.rules.Rules.{Rules}
use Rattle.lane_journals.specs.Buckets.{contains}
use Rattle.lane_journals.specs.Facts.{Idle}
use Rattle.lane_journals.specs.Meanings.{history}
use Rattle.lane_journals.specs.declared.event.LaneEvent.{LaneEvent}
use Rattle.lane_keeping.specs.Acting.{IsKnownRow}
use Rattle.lane_states.specs.FreeRows.{IsRowFree}

pub idle-begun : (J : List LaneEvent) (s : ClusterState) (rules : Rules) (p q : Part) (key : ℕ) (bucket : Low) (receivers : ℕ) → IsRowFree J s rules.acks key → p.rules ≡ rules → BeginsRound p q key bucket receivers
    → ((rows : Rows) (key at : ℕ) (row : Row) → p.rows ≡ Some rows → IsRowOf rows key at row → IsKnownRow s.version (history J) row) → ((rows : Rows) (key at : ℕ) (row : Row) → IsRowOf rows key at row → contains row.bucket key ≡ true)
    → Idle s.version bucket (history J)
idle-begun J s rules p q key bucket receivers free same b known inside = subst (λ (z : Low). Idle s.version z (history J)) (sym b.same_bucket)
    (free b.row (known b.rows key b.at b.row (b.opened).opened b.is_row) (inside b.rows key b.at b.row b.is_row) (subst (λ (r : Rules). size_of (b.row).complete < r.acks) same b.few))

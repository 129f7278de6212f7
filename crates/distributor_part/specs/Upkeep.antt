-- What the calls of upkeep make of a part, and what they say of it: a round of the row of a place, rows that are
-- split and joined, activations and Deletes.
use Rattle.std.specs.Prelude.{◌≡◌, ◌==◌, ◌&&◌, not, ℕ, ◌<◌, false, true, map, Some, None, slice_get}
use Rattle.bucket_ids.specs.Buckets.{Low}
use Rattle.node_sets.specs.Members.{has_node}
use Rattle.cluster_states.specs.declared.cluster_state.ClusterState.{ClusterState}
use Rattle.bucket_db.specs.Changes.{with_rows, split_at, with_joined, IsJoinable, IsJoined, CanJoin, at_row, without_delete}
use Rattle.bucket_db.specs.Rows.{Rows}
use Rattle.bucket_db.specs.declared.row.Row.{Row}
use Rattle.distributor_part.specs.declared.stage.Stage.TheVariants.{Before, Running}
use Rattle.distributor_part.specs.Parts.{Part}
use Rattle.distributor_part.specs.Steps.{IsOpened}
use Rattle.distributor_part.specs.Targets.{AreTargets, IsToBeActive, LacksComplete, AreToBeReady}

-- ---- rounds

-- the set of the targets of the row of a place
pub record AreTargetsAt (p : Part) (at targets : ℕ) : Type 0 where
  pub state : ClusterState
  pub rows : Rows
  pub row : Row
  pub opened : IsOpened p state rows
  pub found : slice_get rows.rows at ≡ Some row
  pub are : AreTargets (p.rules).redundancy state row.bucket row.active targets

-- a round begins in the row of a place, whatever its marks are, and goes to the row's targets
pub record BeginsRoundAt (p q : Part) (at : ℕ) (bucket : Low) (receivers : ℕ) : Type 0 where
  pub state : ClusterState
  pub rows : Rows
  pub row : Row
  pub opened : IsOpened p state rows
  pub no_round : p.stage ≡ Before
  pub found : slice_get rows.rows at ≡ Some row
  pub same_bucket : bucket ≡ row.bucket
  pub targets : AreTargets (p.rules).redundancy state row.bucket row.active receivers
  pub after : q ≡ record p { stage = Running at receivers }

-- ---- searches

-- the node that is to be active in the row of a place
pub record IsToBeActiveAt (p : Part) (at node : ℕ) : Type 0 where
  pub state : ClusterState
  pub rows : Rows
  pub row : Row
  pub opened : IsOpened p state rows
  pub found : slice_get rows.rows at ≡ Some row
  pub is : IsToBeActive state row.bucket row.complete row.active node

-- in the row of a place no node is active or can be
pub record LacksCompleteAt (p : Part) (at : ℕ) : Type 0 where
  pub state : ClusterState
  pub rows : Rows
  pub row : Row
  pub opened : IsOpened p state rows
  pub found : slice_get rows.rows at ≡ Some row
  pub inactive : row.active ≡ None
  pub lacks : LacksComplete state row.bucket row.complete

-- the set of the nodes that are to be ready in the row of a place
pub record AreToBeReadyAt (p : Part) (at ready : ℕ) : Type 0 where
  pub state : ClusterState
  pub rows : Rows
  pub row : Row
  pub opened : IsOpened p state rows
  pub found : slice_get rows.rows at ≡ Some row
  pub are : AreToBeReady (p.rules).searchable state row.bucket row.complete row.active ready

-- ---- splits and joins

-- the row of a place goes, and its halves come
pub record SplitsRow (p q : Part) (at : ℕ) : Type 0 where
  pub rows : Rows
  pub row : Row
  pub opened : p.rows ≡ Some rows
  pub found : slice_get rows.rows at ≡ Some row
  pub fewer : row.bucket.bits < 58
  pub after : q ≡ record p { rows = Some (with_rows rows (split_at at rows.rows)) }

-- the row of a place may be joined with its sibling
pub record CanJoinAt (p : Part) (at : ℕ) : Type 0 where
  pub rows : Rows
  pub opened : p.rows ≡ Some rows
  pub can : CanJoin rows at

-- the row of a place goes with its sibling, and the row that they make comes
pub record JoinsRows (p q : Part) (at : ℕ) : Type 0 where
  pub rows : Rows
  pub row : Row
  pub other : Row
  pub joined : Row
  pub opened : p.rows ≡ Some rows
  pub found : slice_get rows.rows at ≡ Some row
  pub same_lane : rows.lane ≡ p.lane
  pub joinable : IsJoinable rows.lane rows.rows row other
  pub is_joined : IsJoined row other joined
  pub after : q ≡ record p { rows = Some (with_rows rows (with_joined joined rows.rows)) }

-- ---- activations

-- a node becomes the active one of the row of a place, and hasn't accepted that yet
pub record ActivatesAt (p q : Part) (at node : ℕ) : Type 0 where
  pub rows : Rows
  pub row : Row
  pub opened : p.rows ≡ Some rows
  pub found : slice_get rows.rows at ≡ Some row
  pub after : q ≡ record p {
    rows = Some (with_rows rows (at_row at (λ r. record r { active = Some node; accepted = false }) rows.rows));
  }

-- the active node of the row of a place accepted its activation
pub record AcceptsAt (p q : Part) (at : ℕ) : Type 0 where
  pub rows : Rows
  pub row : Row
  pub opened : p.rows ≡ Some rows
  pub found : slice_get rows.rows at ≡ Some row
  pub after : q ≡ record p { rows = Some (with_rows rows (at_row at (λ r. record r { accepted = true }) rows.rows)) }

-- ---- Deletes

-- the row of a place has a Delete to a node, which is no complete member any more
abbrev pub deleting_from : Low → ℕ → ℕ → ℕ → Row → Row
deleting_from bucket node serial marks r =
    record r { complete = marks; deleting = Some (record { bucket = bucket; node = node; serial = serial }) }

pub record BeginsDelete (p q : Part) (at node serial : ℕ) : Type 0 where
  pub rows : Rows
  pub row : Row
  pub marks : ℕ
  pub opened : p.rows ≡ Some rows
  pub found : slice_get rows.rows at ≡ Some row
  pub kept : (n : ℕ) → has_node marks n ≡ (has_node row.complete n && not (n == node))
  pub after : q ≡ record p {
    rows = Some (with_rows rows (at_row at (deleting_from row.bucket node serial marks) rows.rows));
  }

-- the Delete of a bucket to a node has its answer: no row has it any more
pub record EndsDelete (p q : Part) (bucket : Low) (node : ℕ) : Type 0 where
  pub rows : Rows
  pub opened : p.rows ≡ Some rows
  pub after : q ≡ record p { rows = Some (with_rows rows (map (without_delete bucket node) rows.rows)) }

-- When a lane is at rest, as its journal says, under the state that was published last. Only nodes that serve
-- under that state count.
use Rattle.std.specs.Prelude.{◌≡◌, ◌⊎◌, ◌&&◌, ℕ, ◌+◌, ◌/◌, ◌≤◌, ◌<◌, Bool, true, false, List, [], ◌∷◌, Option, None, Some, is_some, if◌then◌else◌}
use Rattle.std.specs.List.{list_any}
use Rattle.bucket_ids.specs.Buckets.{Low, has_key, first_child, second_child}
use Rattle.cluster_states.specs.declared.cluster_state.ClusterState.{ClusterState}
use Rattle.cluster_states.specs.Publishing.{serves, newest_of as newest_state}
use Rattle.ideal_nodes.specs.Placement.{IsIdeal}
use Rattle.documents.specs.declared.entry.Entry.{Entry}
use Rattle.lane_journals.specs.Stamps.{Stamp, same_stamp}
use Rattle.lane_journals.specs.Buckets.{Id, key_of, same_bucket}
use Rattle.lane_journals.specs.Events.{Content}
use Rattle.lane_journals.specs.Readers.{Journal, opened, version, store}
use Rattle.lane_journals.specs.Facts.{InRegion}
use Rattle.lane_journals.specs.Pieces.{NodePiece, is_piece, any_meets, pieces}
use Rattle.lane_journals.specs.RowLists.{Row, rows, IsIn}
use Rattle.lane_journals.specs.Meanings.{history}
use Rattle.lane_journals.specs.Places.{Setting, published_states}
use Rattle.lane_journals.specs.declared.event.LaneEvent.{LaneEvent}
use Rattle.lane_journals.specs.declared.event.LaneEvent.TheVariants.{Wrote}
use Rattle.lane_rest.specs.Sets.{newest_of}
use Rattle.lane_rest.specs.Targets.{is_member, is_target_in, first_targets}

-- ---- documents

-- of each document the newest that a node holds which serves under the state
abbrev pub union_under : ClusterState → Journal → Content
union_under s H = newest_of (serves s) (λ n id. store n id H)

abbrev pub is_held : Option Stamp → Stamp → Bool
is_held None stamp = false
is_held (Some held) stamp = same_stamp held stamp

-- the entry is a document of the bucket, no remove, and it is what is held of its id
abbrev pub counts_in : Low → Content → Entry → Bool
counts_in b held entry = has_key b (key_of entry.id) && (is_some entry.body && is_held (held entry.id) entry.stamp)

-- how many documents of a bucket are held, of all that were written
abbrev pub documents : Low → Content → List LaneEvent → ℕ
documents b held [] = 0
documents b held (Wrote line entry ∷ J) = if counts_in b held entry then documents b held J + 1 else documents b held J
documents b held (_ ∷ J) = documents b held J

-- ---- nodes in a row

-- the bucket is one of the pieces, and a ready one
abbrev pub is_ready : Low → List NodePiece → Bool
is_ready b ps = list_any (λ p. same_bucket p.bucket b && p.ready) ps

-- the node has neither buckets nor entries there
pub record HoldsNothing (b : Low) (n : ℕ) (H : Journal) : Type 0 where
  pub buckets : any_meets b (pieces n H) ≡ false
  pub entries : (id : Id) → has_key b (key_of id) ≡ true → store n id H ≡ None

-- the row has an active node, all keys of the row are in its region of the version, and its bucket is ready there
pub record IsActivated (v : ℕ) (row : Row) (H : Journal) : Type 0 where
  pub node : ℕ
  pub decided : row.active ≡ Some node
  pub current : version node H ≡ v
  pub region : (key : ℕ) → has_key row.bucket key ≡ true → InRegion v node key H
  pub ready : is_ready row.bucket (pieces node H) ≡ true

-- ---- rows

-- just the targets have the row, as a bucket of their own; all are complete; one is active, and the first ones
-- and that one are ready; and the row isn't too large
pub record IsRowAtRest (S : Setting) (searchable split_at : ℕ) (s : ClusterState) (J : List LaneEvent) (row : Row) : Type 0 where
  pub ideal : List ℕ
  pub is_ideal : IsIdeal row.bucket s ideal
  pub targets : (n : ℕ) → is_target_in S.redundancy ideal row.active n ≡ true → is_piece row.bucket (pieces n (history J)) ≡ true
  pub others : (n : ℕ) → serves s n ≡ true → is_target_in S.redundancy ideal row.active n ≡ false → HoldsNothing row.bucket n (history J)
  pub complete : (n : ℕ) → is_target_in S.redundancy ideal row.active n ≡ true → row.members n ≡ true
  pub active : IsActivated s.version row (history J)
  pub ready : (n : ℕ) → is_member (first_targets searchable S.redundancy ideal row.active) n ≡ true → is_ready row.bucket (pieces n (history J)) ≡ true
  pub small : (row.bucket).bits < 58 → documents row.bucket (union_under s (history J)) J ≤ split_at

-- two rows are the halves of a bucket within the lane, a join may have both, and they are small enough together
pub record ArePair (S : Setting) (split_at : ℕ) (s : ClusterState) (J : List LaneEvent) (parent : Low) (row other : Row) : Type 0 where
  pub first : row.bucket ≡ first_child parent
  pub second : other.bucket ≡ second_child parent
  pub inside : (S.lane).bits ≤ parent.bits
  pub active : row.active ≡ other.active
  pub deletes : (row.deleting ≡ None) ⊎ (other.deleting ≡ None)
  pub few : documents row.bucket (union_under s (history J)) J + documents other.bucket (union_under s (history J)) J ≤ split_at / 2

-- ---- the lane

-- the state that was published last is opened, each row is at rest, and no pair is left to be joined
pub record IsAtRest (S : Setting) (searchable split_at : ℕ) (J : List LaneEvent) : Type 0 where
  pub state : ClusterState
  pub newest : newest_state (published_states J) ≡ Some state
  pub is_open : opened state.version (history J) ≡ true
  pub settled : (row : Row) → IsIn row (rows state.version (history J)) → IsRowAtRest S searchable split_at state J row
  pub no_pair : (parent : Low) (row other : Row) → IsIn row (rows state.version (history J)) → IsIn other (rows state.version (history J))
      → ArePair S split_at state J parent row other → ⊥

-- The nodes and rows of a pass are those of a journal.
use Rattle.std.specs.Prelude.{◌≡◌, ℕ, true, List}
use Rattle.bucket_ids.specs.Buckets.{Low}
use Rattle.cluster_states.specs.declared.cluster_state.ClusterState.{ClusterState}
use Rattle.cluster_states.specs.Publishing.{serves}
use Rattle.ideal_nodes.specs.Placement.{IsIdeal}
use Rattle.lane_journals.specs.Buckets.{Id}
use Rattle.lane_journals.specs.Events.{Content}
use Rattle.lane_journals.specs.Readers.{Journal, version, store}
use Rattle.lane_journals.specs.Pieces.{pieces}
use Rattle.lane_journals.specs.RowLists as listed
use Rattle.lane_journals.specs.RowLists.{rows}
use Rattle.lane_journals.specs.Meanings.{history}
use Rattle.lane_journals.specs.Places.{Setting}
use Rattle.lane_journals.specs.declared.event.LaneEvent.{LaneEvent}
use Rattle.lane_keeping.specs.NodeKeeping.{HaveShapes, regions}
use Rattle.pass_model.specs.Nodes.{Node}
use Rattle.pass_model.specs.Rows.{Settings, Row}
use Rattle.pass_model.specs.Passes.{World, In}
use Rattle.lane_rest.specs.Rest.{documents}

-- the settings are those of the lane under a state
pub record AreSettingsOf (S : Setting) (first most : ℕ) (s : ClusterState) (J : List LaneEvent) (t : Settings) : Type 0 where
  pub serving : (n : ℕ) → t.serving n ≡ serves s n
  pub ideal : (b : Low) → IsIdeal b s (t.ideal b)
  pub redundancy : t.redundancy ≡ S.redundancy
  pub acks : t.acks ≡ S.acks
  pub searchable : t.searchable ≡ first
  pub split_at : t.split_at ≡ most
  pub lane_bits : t.lane_bits ≡ (S.lane).bits
  pub documents : (held : Content) (b : Low) → t.documents held b ≡ documents b held J

-- a node is what the journal says of it
pub record IsSaid (n : ℕ) (H : Journal) (x : Node) : Type 0 where
  pub pieces : HaveShapes x.pieces (pieces n H)
  pub store : (id : Id) → x.store id ≡ store n id H
  pub regions : x.regions ≡ regions n H

-- a row has the marks that the journal says
pub record HasMarks (row : listed.Row) (r : Row) : Type 0 where
  pub bucket : r.bucket ≡ row.bucket
  pub complete : (n : ℕ) → r.complete n ≡ row.members n
  pub active : r.active ≡ row.active

-- the nodes and rows are those of the journal under a state, and each node that serves came to know its version
pub record IsWorldOf (s : ClusterState) (J : List LaneEvent) (w : World) : Type 0 where
  pub nodes : (n : ℕ) → IsSaid n (history J) (w.nodes n)
  pub current : (n : ℕ) → serves s n ≡ true → version n (history J) ≡ s.version
  pub rows : (row : listed.Row) → listed.IsIn row (rows s.version (history J)) → (r : Row) × In r w.rows × HasMarks row r

-- The nodes and the rows of a pass as the abstract has them.
use Rattle.std.specs.Prelude.{◌≡◌, ℕ, true, false, map, Option, Some, None, slice_get, if◌then◌else◌}
use Rattle.std.specs.BTreeMap.{BTreeMap}
use Rattle.bucket_ids.specs.Buckets.{Low}
use Rattle.cluster_states.specs.declared.cluster_state.ClusterState.{ClusterState}
use Rattle.cluster_states.specs.Publishing.{serves}
use Rattle.ideal_nodes.specs.Placement.{IsIdeal}
use Rattle.bucket_db.specs.Rows.{AreRows, buckets_of}
use Rattle.bucket_db.specs.declared.row.Deleting.{Deleting}
use Rattle.bucket_db.specs.declared.row.Row.{Row}
use Rattle.pass_model.specs.Nodes.{Node}
use Rattle.pass_model.specs.Shapes.{Shape, Nothing, shape_of}
use Rattle.pass_model.specs.Rows as rest
use Rattle.pass_model.specs.Rows.{Settings}
use Rattle.pass_model.specs.Passes.{World}
use Rattle.pass_machine.specs.declared.notes.RowNote.{RowNote}
use Rattle.pass_machine.specs.Notes.{note_for, whole_in}
use Rattle.pass_machine.specs.Turns.{View}
use Rattle.pass_machine.specs.Abstract.{Agrees, shown_in, row_with}

-- how the buckets stand that a node showed in the last round of a row. One that doesn't serve isn't asked: it is as it
-- was where the pass began
abbrev pub shown_at : ClusterState → (ℕ → Node) → Low → RowNote → ℕ → Shape
shown_at state still b note n = if serves state n then shown_in note n else shape_of b (still n).pieces

abbrev pub shown_by : ClusterState → (ℕ → Node) → Low → Option RowNote → ℕ → Shape
shown_by state still b None n = Nothing
shown_by state still b (Some note) n = shown_at state still b note n

-- a row with the note of its last round, where that had all its answers
abbrev pub row_by : ClusterState → (ℕ → Node) → Option RowNote → Row → rest.Row
row_by state still note row = row_with (shown_by state still row.bucket note) note row

abbrev pub row_of : ClusterState → (ℕ → Node) → BTreeMap ℕ RowNote → Row → rest.Row
row_of state still notes row = row_by state still (whole_in (note_for row.bucket notes)) row

abbrev pub world_of : (ℕ → Node) → View → BTreeMap ℕ RowNote → (ℕ → Node) → World
world_of still v notes ns = record { nodes = ns; rows = map (row_of v.state still notes) v.rows }

-- what holds of a pass at any time: the settings are those that the machine reads, the rows divide the lane, each active
-- node and the node of each Delete serve, and a node that doesn't serve is as it was where the pass began
pub record IsUnder (s : Settings) (still : ℕ → Node) (v : View) (ns : ℕ → Node) : Type 0 where
  pub agrees : Agrees v s
  pub split_at : s.split_at ≡ (v.rules).split_at
  pub lane_bits : s.lane_bits ≡ (v.lane).bits
  pub ideal : (b : Low) → IsIdeal b v.state (v.ideal b)
  pub rows : AreRows v.lane (buckets_of v.rows)
  pub actives : (at : ℕ) (row : Row) (n : ℕ) → slice_get v.rows at ≡ Some row → row.active ≡ Some n → serves v.state n ≡ true
  pub deletes : (at : ℕ) (row : Row) (d : Deleting) → slice_get v.rows at ≡ Some row → row.deleting ≡ Some d → serves v.state d.node ≡ true
  pub others : (n : ℕ) → serves v.state n ≡ false → ns n ≡ still n

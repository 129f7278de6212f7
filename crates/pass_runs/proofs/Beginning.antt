-- Where a pass begins, with what is sent again.
use Rattle.std.proofs.Common.{◌≡◌, ◌∙◌, ℕ, [], Option, Some, None, refl, sym, ap, arith}
use Rattle.std.specs.Prelude.{is_some}
use Rattle.std.specs.Ordering.{nat_cmp}
use Rattle.std.specs.BTreeMap.{BTreeMap, get}
use Rattle.bucket_ids.specs.Printed.{number_of}
use Rattle.bucket_db.specs.declared.row.Row.{Row}
use Rattle.cluster_states.specs.declared.cluster_state.ClusterState.{ClusterState}
use Rattle.pass_model.specs.Nodes.{Node}
use Rattle.pass_model.specs.Rows.{Settings}
use Rattle.pass_model.specs.Turns as turns
use Rattle.pass_model.specs.Turns.{stand}
use Rattle.pass_machine.specs.declared.doing.Doing.TheVariants.{ResendingDelete}
use Rattle.pass_machine.specs.declared.notes.RowNote.{RowNote}
use Rattle.pass_machine.specs.Notes.{note_for, whole_in}
use Rattle.pass_machine.specs.Turns.{View}
use Rattle.pass_runs.specs.Worlds.{IsUnder, row_by, row_of, world_of}
use Rattle.pass_runs.specs.Standing.{NoNotes, Stands}
use Rattle.pass_runs.proofs.Leading.{lead_none}
use Rattle.pass_runs.proofs.Orders.{rows_in_order}
use Rattle.pass_runs.proofs.Rows.{row_of_bucket}

same-active : (state : ClusterState) (still : ℕ → Node) (o : Option RowNote) (row : Row) → (row_by state still o row).active ≡ row.active
same-active state still None row = refl
same-active state still (Some note) row = refl

pub pass_begins : (s : Settings) (still : ℕ → Node) (v : View) (made : BTreeMap ℕ (Unit {0})) (notes : BTreeMap ℕ RowNote) (ns : ℕ → Node) → IsUnder s still v ns → ((number : ℕ) → get nat_cmp made number ≡ None) → NoNotes notes
    → Stands s still (world_of still v notes ns) v made notes (ResendingDelete 0) ns
pass_begins s still v made notes ns under none free = record {
  order = rows_in_order s (row_of v.state still notes) (row_of_bucket v.state still notes) (λ row. same-active v.state still (whole_in (note_for row.bucket notes)) row) v.lane v.rows under.rows
      (λ at row n found is. under.agrees.serving n ∙ under.actives at row n found is);
  list = [];
  are_made = λ b valid. sym (ap (λ (o : Option (Unit {0})). is_some o) (none (number_of b)));
  knows = (refl, free, λ at row less found. absurd (omega (arith, less)));
  sent = [];
  buckets = tt;
  led = λ more. lead_none s (stand (turns.ResendingDelete more) (world_of still v notes ns));
}

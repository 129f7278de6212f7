use Rattle.std.proofs.Common.{◌≡◌, ◌<◌, ℕ, Some, length, get_or}
use Rattle.doc_types.specs.declared.outputs.OutputKind.TheVariants as output
use Rattle.documents.specs.Fields.{Contents}
use Rattle.document_rows.specs.Reading.{row_at}
use Rattle.view_changes.specs.Serving.{rows_of}
use Rattle.group_counts.specs.Figures.{no_slot, figure_for, HaveColumns}
use Rattle.group_counts.proofs.slots.read_slots.Given as goal

abbrev pub invariant-loop-at : goal.invariant-loop-at
invariant-loop-at g l = (length l.slots ≡ length l.kinds)
    × HaveColumns l.type_name l.kinds (g.V.Lists.seen l.view) l.slots
    × ((d : Contents) → row_at (rows_of l.hit.node (g.V.Lists.seen l.view)) l.hit.local ≡ Some d → (i : ℕ) → i < l.at → (get_or l.slots i no_slot).number ≡ figure_for (get_or l.kinds i output.Count) d)

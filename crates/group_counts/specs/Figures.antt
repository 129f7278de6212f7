-- The number that each output takes of a document.
use Rattle.std.specs.Prelude.{◌≡◌, ◌<◌, ℕ, ℤ, pos, List, length, slice_index_or, Option, None, Some}
use Rattle.std.specs.Option.{option_copied}
use Rattle.std.specs.Int.{int_min, int_max}
use Rattle.doc_types.specs.declared.outputs.OutputKind.{OutputKind}
use Rattle.doc_types.specs.declared.outputs.OutputKind.TheVariants as output
use Rattle.documents.specs.Fields.{Contents}
use Rattle.document_indexes.specs.Entering.{IsLent}
use Rattle.document_rows.specs.Reading.{row_at}
use Rattle.view_changes.specs.Views.{View}
use Rattle.view_changes.specs.Serving.{rows_of}
use Rattle.group_counts.specs.declared.slots.Slot.{Slot}
use Rattle.group_counts.specs.Numbers.{either}
use Rattle.group_counts.specs.Keyed.{number_in}
use Rattle.group_counts.specs.Tallies.{plus, with_number}

-- a count takes 1 of each document, the others the number of their field
abbrev pub figure_for : OutputKind → Contents → Option ℤ
figure_for output.Count d = Some (pos 1)
figure_for (output.Sum field) d = number_in field d
figure_for (output.Min field) d = number_in field d
figure_for (output.Max field) d = number_in field d

-- an output with such a number more
abbrev pub with_figure : OutputKind → Option ℤ → Option ℤ → Option ℤ
with_figure output.Count v n = with_number plus v n
with_figure (output.Sum field) v n = with_number plus v n
with_figure (output.Min field) v n = with_number (either int_min) v n
with_figure (output.Max field) v n = with_number (either int_max) v n

-- ---- slots: of each output the column of its field that is lent, and the number that was read last

abbrev pub no_slot : Slot
no_slot = record { node = 0; column = None; number = None }

-- the column is that of the output's field at the slot's node
abbrev pub HasColumn : List ℕ → OutputKind → View → Slot → Type 0
HasColumn name output.Count v slot = Unit {0}
HasColumn name (output.Sum field) v slot = IsLent name field (row_at (rows_of slot.node v)) (option_copied slot.column)
HasColumn name (output.Min field) v slot = IsLent name field (row_at (rows_of slot.node v)) (option_copied slot.column)
HasColumn name (output.Max field) v slot = IsLent name field (row_at (rows_of slot.node v)) (option_copied slot.column)

abbrev pub HaveColumns : List ℕ → List OutputKind → View → List Slot → Type 0
HaveColumns name kinds v slots = (i : ℕ) → i < length kinds → HasColumn name (slice_index_or kinds i output.Count) v (slice_index_or slots i no_slot)

-- the numbers are those of a document
abbrev pub AreFigures : List OutputKind → Contents → List Slot → Type 0
AreFigures kinds d slots = (i : ℕ) → i < length kinds → (slice_index_or slots i no_slot).number ≡ figure_for (slice_index_or kinds i output.Count) d

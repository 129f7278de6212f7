use Rattle.std.proofs.Common.{◌≡◌, List, ℕ, ℤ, true, take}
use Rattle.documents.specs.Fields.{pairs}
use Rattle.document_indexes.specs.Entering.{value_of}
use Rattle.document_rows.specs.Reading.{value_has_number, IsWide}
use Rattle.node_rows.proofs.fitting.read_fields.Given as goal

abbrev pub invariant-loop-at : goal.invariant-loop-at
invariant-loop-at l = (f : List ℕ) (q : ℤ) → value_has_number q (value_of f (take l.at (pairs l.fields))) ≡ true → IsWide q

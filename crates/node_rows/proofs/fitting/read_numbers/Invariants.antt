use Rattle.std.proofs.Common.{◌≡◌, ℤ, true, take}
use Rattle.attribute_columns.specs.Columns.{has_number}
use Rattle.document_rows.specs.Reading.{IsWide}
use Rattle.node_rows.proofs.fitting.read_numbers.Given as goal

abbrev pub invariant-loop-at : goal.invariant-loop-at
invariant-loop-at l = (q : ℤ) → has_number q (take l.at l.numbers) ≡ true → IsWide q

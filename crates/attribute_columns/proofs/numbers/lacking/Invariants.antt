use Rattle.std.proofs.Common.{◌≡◌, ℤ, take, ◌&&◌, not}
use Rattle.attribute_columns.specs.Columns.{has_number}
use Rattle.attribute_columns.proofs.numbers.lacking.Given as goal

abbrev pub invariant-loop-number : goal.invariant-loop-number
invariant-loop-number l = (q : ℤ) → has_number q l.list.items ≡ (has_number q (take l.number-index l.numbers) && not (has_number q l.fn.others))

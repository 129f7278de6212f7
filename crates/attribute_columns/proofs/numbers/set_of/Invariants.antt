use Rattle.std.proofs.Common.{◌≡◌, ℤ, take}
use Rattle.std.specs.Ordering.{int_cmp}
use Rattle.std.specs.BTreeSet.{contains}
use Rattle.attribute_columns.specs.Columns.{has_number}
use Rattle.attribute_columns.proofs.numbers.set_of.Given as goal

abbrev pub invariant-loop-number : goal.invariant-loop-number
invariant-loop-number l = (q : ℤ) → contains int_cmp l.set q ≡ has_number q (take l.number-index l.numbers)

use Rattle.std.proofs.Common.{◌≡◌, ℤ, take, cond}
use Rattle.local_ids.specs.Rising.{moved_local}
use Rattle.attribute_columns.specs.Columns.{has_number}
use Rattle.attribute_columns.specs.Dictionary.{ids_at, HasNoEmpty}
use Rattle.attribute_columns.proofs.dictionary.move_all.Given as goal

abbrev pub invariant-loop-at : goal.invariant-loop-at
invariant-loop-at l = ((q : ℤ) → ids_at l.lists q ≡ cond (has_number q (take l.at l.numbers)) (moved_local l.from l.to (ids_at l.initial.lists q)) (ids_at l.initial.lists q)) × (HasNoEmpty l.initial.lists → HasNoEmpty l.lists)

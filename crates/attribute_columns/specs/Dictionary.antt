-- How the code keeps which documents have a number.
use Rattle.std.specs.Prelude.{◌≡◌, ◌<◌, ℕ, ℤ, List, [], length, IfSome, Vec}
use Rattle.std.specs.Option.{option_map_or}
use Rattle.std.specs.Ordering.{int_cmp}
use Rattle.std.specs.BTreeMap as tree
use Rattle.std.specs.BTreeMap.{BTreeMap}
use Rattle.attribute_columns.specs.Columns.{ValueMap, locals_with}

-- the ids at a number
abbrev pub ids_at : {Y : Type 0} → BTreeMap ℤ (Vec ℕ Y) → ℤ → List ℕ
ids_at lists q = option_map_or (λ v. v.items) (tree.get int_cmp lists q) []

-- no list is empty
abbrev pub HasNoEmpty : {Y : Type 0} → BTreeMap ℤ (Vec ℕ Y) → Type 0
HasNoEmpty lists = (q : ℤ) → IfSome (tree.get int_cmp lists q) (λ v. 0 < length v.items)

-- the lists are those of the values, and no list without a document is kept
pub record IsKept {Y : Type 0} (values : ValueMap) (lists : BTreeMap ℤ (Vec ℕ Y)) : Type 0 where
  pub ids : (q : ℤ) → ids_at lists q ≡ locals_with q values
  pub some : HasNoEmpty lists

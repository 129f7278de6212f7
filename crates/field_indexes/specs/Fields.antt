-- The fields of all types, each with its values.
use Rattle.std.specs.Prelude.{◌≡◌, ◌&&◌, ℕ, Bool, List, Option, None, Some, String, option_and_then}
use Rattle.std.specs.BTreeMap.{BTreeMap, get_by_text}
use Rattle.std.specs.FinMap as fin
use Rattle.std.specs.Str.{bytes_eq}
use Rattle.doc_types.specs.Values.{kind_of}
use Rattle.doc_types.specs.declared.values.FieldValue.{FieldValue}
use Rattle.attribute_columns.specs.Columns.{Held, empty_column, with_value}

-- by the names of type and field; none where no document had a value
abbrev pub Fields : Type 0
Fields = List ℕ → List ℕ → Option Held

abbrev pub no_fields : Fields
no_fields name field = None

-- the value of a document in a field
abbrev pub cell : Fields → List ℕ → List ℕ → ℕ → Option FieldValue
cell fields name field n = option_and_then (λ h. fin.get h.values n) (fields name field)

-- the field of these names
abbrev pub is_field : List ℕ → List ℕ → List ℕ → List ℕ → Bool
is_field name field n f = bytes_eq name n && bytes_eq field f

-- a field with one value more; a new one is of the kind of that value
abbrev pub entered : ℕ → FieldValue → Option Held → Held
entered local v None = with_value local v (empty_column (kind_of v))
entered local v (Some h) = with_value local v h

-- ---- how the code keeps them

abbrev pub field_in : {Y : Type 0} → Option (BTreeMap (String Y) Held) → List ℕ → Option Held
field_in None f = None
field_in (Some fields) f = get_by_text fields f

abbrev pub field_at : {Y Z : Type 0} → BTreeMap (String Y) (BTreeMap (String Z) Held) → List ℕ → List ℕ → Option Held
field_at types n f = field_in (get_by_text types n) f

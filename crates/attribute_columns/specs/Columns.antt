-- The values of a field, by local id.
use Rattle.std.specs.Prelude.{ℕ, ℤ, Bool, List, [], ◌∷◌, filter, refl}
use Rattle.std.specs.Coded.{Coded, code_by, coded×, coded_ℕ}
use Rattle.std.specs.List.{list_any}
use Rattle.std.specs.Option.{option_map_or}
use Rattle.std.specs.Ordering.{nat_cmp, int_eq}
use Rattle.std.specs.FinMap as fin
use Rattle.local_ids.specs.Places.{moved}
use Rattle.doc_types.specs.declared.values.FieldType.{FieldType}
use Rattle.doc_types.specs.declared.values.FieldValue.{FieldValue}
use Rattle.doc_types.specs.declared.values.FieldValue.TheVariants.{Int, Text, Ints, Texts}
use Rattle.doc_types.specs.contracts.values.FieldValue as value
use Rattle.doc_types.specs.contracts.values.FieldType as type

abbrev pub ValueMap : Type 0
ValueMap = fin.FinMap nat_cmp FieldValue

pub record Held : Type 0 where
  pub kind : FieldType
  pub values : ValueMap

abbrev pub held_code : Coded Held
held_code = code_by (FieldType × ValueMap) (coded× type.the_row.coded (fin.code coded_ℕ value.the_row.coded)) (λ c. (c.kind, c.values)) (λ p. record { kind = p.0; values = p.1 }) (λ _. refl)

abbrev pub empty_column : FieldType → Held
empty_column kind = record { kind = kind; values = fin.empty }

abbrev pub with_value : ℕ → FieldValue → Held → Held
with_value local value column = record { kind = column.kind; values = fin.insert column.values local value }

abbrev pub without_value : ℕ → Held → Held
without_value local column = record { kind = column.kind; values = fin.remove column.values local }

-- the value of a document becomes another's
abbrev pub with_moved : ℕ → ℕ → Held → Held
with_moved from to column = record { kind = column.kind; values = moved from to column.values }

-- ---- numbers

-- the numbers of a value: itself or its items
abbrev pub numbers_of : FieldValue → List ℤ
numbers_of (Int z) = z ∷ []
numbers_of (Text t) = []
numbers_of (Ints zs) = zs
numbers_of (Texts ts) = []

abbrev pub has_number : ℤ → List ℤ → Bool
has_number q numbers = list_any (int_eq q) numbers

-- the numbers of the value of a document
abbrev pub numbers_at : ValueMap → ℕ → List ℤ
numbers_at values n = option_map_or numbers_of (fin.get values n) []

-- the documents that have a number
abbrev pub locals_with : ℤ → ValueMap → List ℕ
locals_with q values = filter (λ n. has_number q (numbers_at values n)) (fin.keys values)

-- The kinds of the fields that a document of a type may have, and how long a list may be.
use Rattle.std.specs.Prelude.{ℕ, List, Option, option_and_then}
use Rattle.std.specs.FinMap as fin
use Rattle.doc_types.specs.SchemaCodes.{Types}
use Rattle.doc_types.specs.declared.values.FieldType.{FieldType}

-- the most items of a list
abbrev pub most_items : ℕ
most_items = 256

-- the kinds of a type's fields, by their names
abbrev pub Kinds : Type 0
Kinds = List ℕ → Option FieldType

abbrev pub kinds_of : Types → List ℕ → Kinds
kinds_of types type_name name = option_and_then (λ fields. fin.get fields name) (fin.get types type_name)

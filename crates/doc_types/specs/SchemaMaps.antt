-- The pairs that the lists of a schema stand for.
use Rattle.std.specs.Prelude.{ℕ, List, map}
use Rattle.std.specs.String.{string_bytes}
use Rattle.std.specs.FinMap as fin
use Rattle.doc_types.specs.declared.values.FieldType.{FieldType}
use Rattle.doc_types.specs.declared.schema.FieldOf.{FieldOf}
use Rattle.doc_types.specs.declared.schema.TypeOf.{TypeOf}
use Rattle.doc_types.specs.SchemaCodes.{Fields}

-- a field's name with its kind
abbrev pub field_pair : FieldOf → List ℕ × FieldType
field_pair f = (string_bytes f.name, f.kind)

-- a type's name with its fields
abbrev pub type_pair : TypeOf → List ℕ × Fields
type_pair t = (string_bytes t.name, fin.from_entries (map field_pair t.fields.items))

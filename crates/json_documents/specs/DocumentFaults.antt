-- Why an object says no document of a type: the first of these that holds, and the least name.
use Rattle.std.specs.Prelude.{◌&&◌, ℕ, Bool, not, List, Option, Some, None, is_some, option_map, if◌then◌else◌}
use Rattle.std.specs.FinMap as fin
use Rattle.serde_json.specs.Data.{Data, Members, no_members, member}
use Rattle.serde_json.specs.Find.{as_null}
use Rattle.doc_types.specs.SchemaCodes.{Types}
use Rattle.doc_types.specs.declared.values.FieldType.{FieldType}
use Rattle.documents.specs.Faults.{size_fault}
use Rattle.documents.specs.Kinds.{Kinds, kinds_of}
use Rattle.documents.specs.declared.fault.DocumentFault.{DocumentFault}
use Rattle.documents.specs.declared.fault.DocumentFault.TheVariants.{UnknownType, UnknownField, WrongValue}
use Rattle.json_documents.specs.Json.{value_by, fields_in}

-- the least name whose member passes a test; members stand in the order of their names
abbrev pub first_name : (List ℕ → Data → Bool) → Members → Option (List ℕ)
first_name test no_members = None
first_name test (member name d ms) = if test name d then Some name else first_name test ms

-- the type has no field of that name
abbrev pub is_unknown : Kinds → List ℕ → Data → Bool
is_unknown kinds name d = not (is_some (kinds name))

-- neither null nor a value of the field's kind
abbrev pub is_no_value : Option FieldType → Data → Bool
is_no_value k d = not (is_some (as_null d)) && not (is_some (value_by k d))

abbrev pub is_wrong : Kinds → List ℕ → Data → Bool
is_wrong kinds name d = is_no_value (kinds name) d

abbrev pub first_fault : Option DocumentFault → Option DocumentFault → Option DocumentFault
first_fault None other = other
first_fault (Some fault) other = Some fault

-- the first name that isn't the type's, and else the first wrong value
abbrev pub name_fault : (List ℕ → Data → Bool) → Kinds → Members → Option DocumentFault
name_fault wrong kinds ms = first_fault (option_map UnknownField (first_name (is_unknown kinds) ms)) (option_map WrongValue (first_name wrong ms))

abbrev pub members_fault : Kinds → Members → Option DocumentFault
members_fault kinds ms = first_fault (name_fault (is_wrong kinds) kinds ms) (size_fault (fields_in kinds ms))

abbrev pub document_fault : Types → List ℕ → Members → Option DocumentFault
document_fault types type_name ms = if is_some (fin.get types type_name) then members_fault (kinds_of types type_name) ms else Some UnknownType

-- Which objects say an update, and which one.
use Rattle.std.specs.Prelude.{ℕ, Bool, not, List, Option, Some, is_some, if◌then◌else◌}
use Rattle.std.specs.FinMap as fin
use Rattle.serde_json.specs.Data.{Data, Members}
use Rattle.doc_types.specs.SchemaCodes.{Types}
use Rattle.doc_types.specs.declared.values.FieldType.{FieldType}
use Rattle.documents.specs.Kinds.{Kinds, kinds_of}
use Rattle.documents.specs.declared.fault.DocumentFault.{DocumentFault}
use Rattle.documents.specs.declared.fault.DocumentFault.TheVariants.{UnknownType}
use Rattle.doc_updates.specs.Updates.{Changes}
use Rattle.json_documents.specs.DocumentFaults.{name_fault}
use Rattle.json_documents.specs.Json.{said}
use Rattle.json_documents.specs.Words.{change_for, change_in}

-- no word of the field with a right value
abbrev pub is_no_change : Option FieldType → Data → Bool
is_no_change k d = not (is_some (change_for k d))

abbrev pub is_wrong : Kinds → List ℕ → Data → Bool
is_wrong kinds name d = is_no_change (kinds name) d

-- why an object says no update of a type
abbrev pub update_fault : Types → List ℕ → Members → Option DocumentFault
update_fault types type_name ms = if is_some (fin.get types type_name) then name_fault (is_wrong (kinds_of types type_name)) (kinds_of types type_name) ms else Some UnknownType

-- the changes that an object says
abbrev pub changes_in : Kinds → Members → Changes
changes_in kinds ms = fin.from_entries (said (change_in kinds) ms)

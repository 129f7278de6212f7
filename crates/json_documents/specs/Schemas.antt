-- Schemas: which texts are right, and what they say.
use Rattle.std.specs.Prelude.{◌&&◌, ◌||◌, ℕ, ◌+◌, min, Bool, false, not, List, [], ◌∷◌, length, codes, Option, Some, None, is_some, option_map, option_and_then, nat_lt, if◌then◌else◌}
use Rattle.std.specs.List.{list_all}
use Rattle.std.specs.Option.{option_or}
use Rattle.std.specs.Str.{bytes_eq}
use Rattle.std.specs.FinMap as fin
use Rattle.serde_json.specs.Data.{Data, Members, no_members, member}
use Rattle.serde_json.specs.Events.{members_len}
use Rattle.serde_json.specs.Find.{as_object, as_str}
use Rattle.doc_types.specs.SchemaCodes.{Fields, Types}
use Rattle.std.specs.Char.{is_ascii_alphabetic}
use Rattle.doc_types.specs.Tokens as tokens
use Rattle.doc_types.specs.declared.values.FieldType.{FieldType}
use Rattle.doc_types.specs.declared.values.FieldType.TheVariants as kind
use Rattle.json_documents.specs.declared.schema_faults.SchemaFault.{SchemaFault}
use Rattle.json_documents.specs.declared.schema_faults.SchemaFault.TheVariants.{NotJson, NotObject, BadName, BadField, TooMany}

-- the words of selections
abbrev pub is_selection_word : List ℕ → Bool
is_selection_word w = bytes_eq w (codes "and") || bytes_eq w (codes "false") || bytes_eq w (codes "not") || bytes_eq w (codes "null") || bytes_eq w (codes "or") || bytes_eq w (codes "true")

-- the words of the outputs of a query
abbrev pub is_output_word : List ℕ → Bool
is_output_word w = bytes_eq w (codes "count") || bytes_eq w (codes "max") || bytes_eq w (codes "min") || bytes_eq w (codes "output") || bytes_eq w (codes "sum")

-- the words of queries that no selection has
abbrev pub is_query_word : List ℕ → Bool
is_query_word w = bytes_eq w (codes "all") || bytes_eq w (codes "contains") || bytes_eq w (codes "each") || bytes_eq w (codes "from") || bytes_eq w (codes "group")
    || bytes_eq w (codes "select") || bytes_eq w (codes "where") || is_output_word w

-- an ASCII letter and then up to 63 ASCII letters, digits and `_`
unfoldable pub is_identifier : List ℕ → Bool
is_identifier [] = false
is_identifier (c ∷ cs) = is_ascii_alphabetic c && (nat_lt (length cs) 64 && list_all tokens.is_name cs)

-- the name of a type or a field: no word of either language
unfoldable pub is_name : List ℕ → Bool
is_name name = is_identifier name && (not (is_selection_word name) && not (is_query_word name))

abbrev pub is_object : Data → Bool
is_object d = is_some (as_object d)

-- places count up to the greatest number of 32 bits
abbrev pub next_place : ℕ → ℕ
next_place place = min (place + 1) 4294967295

-- the first type whose name is wrong or whose value is no object
abbrev pub name_fault : ℕ → Members → Option SchemaFault
name_fault place no_members = None
name_fault place (member name d ms) = if is_name name && is_object d then name_fault (next_place place) ms else Some (BadName place)

-- the kind that a text names
abbrev pub kind_named : List ℕ → Option FieldType
kind_named text = if bytes_eq text (codes "int") then Some kind.Int else (if bytes_eq text (codes "text") then Some kind.Text
    else (if bytes_eq text (codes "ints") then Some kind.IntArray else (if bytes_eq text (codes "texts") then Some kind.TextArray else None)))

abbrev pub kind_in : Data → Option FieldType
kind_in d = option_and_then kind_named (as_str d)

-- the first field of a type whose name or kind is wrong
abbrev pub fields_fault : ℕ → ℕ → Members → Option SchemaFault
fields_fault type_at place no_members = None
fields_fault type_at place (member name d ms) = if is_name name && is_some (kind_in d) then fields_fault type_at (next_place place) ms else Some (BadField type_at place)

-- the members of an object; of another value none
abbrev pub members_in : Option Members → Members
members_in None = no_members
members_in (Some ms) = ms

-- the first wrong field of the first type that has one
abbrev pub field_fault : ℕ → Members → Option SchemaFault
field_fault place no_members = None
field_fault place (member name d ms) = option_or (fields_fault place 0 (members_in (as_object d))) (field_fault (next_place place) ms)

-- a type has more than 32 fields
abbrev pub has_many_fields : Members → Bool
has_many_fields no_members = false
has_many_fields (member name d ms) = nat_lt 32 (members_len (members_in (as_object d))) || has_many_fields ms

abbrev pub size_fault : Members → Option SchemaFault
size_fault ms = if nat_lt 16 (members_len ms) || has_many_fields ms then Some TooMany else None

abbrev pub members_fault : Members → Option SchemaFault
members_fault ms = option_or (name_fault 0 ms) (option_or (field_fault 0 ms) (size_fault ms))

abbrev pub object_fault : Option Members → Option SchemaFault
object_fault None = Some NotObject
object_fault (Some ms) = members_fault ms

-- why a text is no schema, the first cause that holds
abbrev pub schema_fault : Option Data → Option SchemaFault
schema_fault None = Some NotJson
schema_fault (Some d) = object_fault (as_object d)

-- the fields of a type with the kinds that they name
abbrev pub field_entry : List ℕ → Option FieldType → List (List ℕ × FieldType) → List (List ℕ × FieldType)
field_entry name None rest = rest
field_entry name (Some k) rest = (name, k) ∷ rest

abbrev pub fields_of : Members → List (List ℕ × FieldType)
fields_of no_members = []
fields_of (member name d ms) = field_entry name (kind_in d) (fields_of ms)

-- the types with their fields
abbrev pub types_of : Members → List (List ℕ × Fields)
types_of no_members = []
types_of (member name d ms) = (name, fin.from_entries (fields_of (members_in (as_object d)))) ∷ types_of ms

-- the schema that an object says
abbrev pub schema_of : Members → Types
schema_of ms = fin.from_entries (types_of ms)

abbrev pub schema_in : Option Data → Option Types
schema_in d = option_map schema_of (option_and_then as_object d)

-- What JSON says of fields, and fields in JSON.
use Rattle.std.specs.Prelude.{ℕ, ℤ, List, [], ◌∷◌, map, Option, Some, None, option_map, option_and_then, nat_le, if◌then◌else◌}
use Rattle.std.specs.FinMap as fin
use Rattle.serde_json.specs.Data.{Data, number, string, array, Items, no_items, item, Members, no_members, member}
use Rattle.serde_json.specs.Events.{items_len}
use Rattle.serde_json.specs.Find.{as_number, as_str, as_array, as_i64, of_integer}
use Rattle.serde_json.specs.View.{items_of}
use Rattle.doc_types.specs.declared.values.FieldType.{FieldType}
use Rattle.doc_types.specs.declared.values.FieldType.TheVariants as kind
use Rattle.doc_types.specs.declared.values.FieldValue.{FieldValue}
use Rattle.doc_types.specs.declared.values.FieldValue.TheVariants.{Int, Text, Ints, Texts}
use Rattle.documents.specs.Fields.{FieldMap}
use Rattle.documents.specs.Kinds.{most_items, Kinds}

-- a number that is whole and fits 64 bits with its sign
abbrev pub whole : Data → Option ℤ
whole d = option_and_then as_i64 (as_number d)

-- items that are read one by one; none where one of them can't be
module _ {X : Type 0} where
  abbrev pub onto : Option X → Option (List X) → Option (List X)
  onto None rest = None
  onto (Some x) rest = option_map (λ xs. x ∷ xs) rest

  abbrev pub each : (Data → Option X) → Items → Option (List X)
  each read no_items = Some []
  each read (item d ds) = onto (read d) (each read ds)

  abbrev pub few : (Data → Option X) → Items → Option (List X)
  few read ds = if nat_le (items_len ds) most_items then each read ds else None

  -- a list of at most 256 items
  abbrev pub list_in : (Data → Option X) → Data → Option (List X)
  list_in read d = option_and_then (few read) (as_array d)

-- what a value says of a field of a kind; none where it is no value of that kind
unfoldable pub value_of : FieldType → Data → Option FieldValue
value_of kind.Int d = option_map Int (whole d)
value_of kind.Text d = option_map Text (as_str d)
value_of kind.IntArray d = option_map Ints (list_in whole d)
value_of kind.TextArray d = option_map Texts (list_in as_str d)

-- what a member says of the field of its name; none for a field that the type hasn't
abbrev pub value_by : Option FieldType → Data → Option FieldValue
value_by None d = None
value_by (Some k) d = value_of k d

abbrev pub value_in : Kinds → List ℕ → Data → Option FieldValue
value_in kinds name d = value_by (kinds name) d

-- what the members of an object say, each read by its name; a member may say nothing
module _ {X : Type 0} where
  abbrev pub with_value : List ℕ → Option X → List (List ℕ × X) → List (List ℕ × X)
  with_value name None rest = rest
  with_value name (Some x) rest = (name, x) ∷ rest

  abbrev pub said : (List ℕ → Data → Option X) → Members → List (List ℕ × X)
  said read no_members = []
  said read (member name d ms) = with_value name (read name d) (said read ms)

-- the fields that an object says; `null` says none
abbrev pub values_in : Kinds → Members → List (List ℕ × FieldValue)
values_in kinds ms = said (value_in kinds) ms

abbrev pub fields_in : Kinds → Members → FieldMap
fields_in kinds ms = fin.from_entries (values_in kinds ms)

-- a value, as a report shows it
abbrev pub number_json : ℤ → Data
number_json z = number (of_integer z)

abbrev pub value_json : FieldValue → Data
value_json (Int z) = number_json z
value_json (Text t) = string t
value_json (Ints zs) = array (items_of (map number_json zs))
value_json (Texts ts) = array (items_of (map string ts))

abbrev pub members_json : List (List ℕ × FieldValue) → Members
members_json [] = no_members
members_json (e ∷ es) = member e.0 (value_json e.1) (members_json es)

-- all fields in the order of their names
abbrev pub fields_json : FieldMap → Members
fields_json fields = members_json (fin.entries fields)

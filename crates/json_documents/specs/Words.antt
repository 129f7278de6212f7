-- What the words of an update mean.
use Rattle.std.specs.Prelude.{ℕ, ℤ, List, codes, Option, Some, None, is_some, option_map, option_and_then, if◌then◌else◌}
use Rattle.std.specs.Str.{bytes_eq}
use Rattle.serde_json.specs.Data.{Data, Members, no_members, member}
use Rattle.serde_json.specs.Find.{as_null, as_object, as_str}
use Rattle.doc_types.specs.declared.values.FieldType.{FieldType}
use Rattle.doc_types.specs.declared.values.FieldType.TheVariants as kind
use Rattle.documents.specs.Kinds.{Kinds}
use Rattle.json_documents.specs.Json.{whole, list_in, value_of}
use Rattle.doc_updates.specs.declared.change.Change.{Change}
use Rattle.doc_updates.specs.declared.change.Change.TheVariants.{Assign, Clear, Increment, Decrement, Multiply, Divide, AddNumbers, AddTexts}

-- the one member of an object that has just one
abbrev pub only : Members → Option (List ℕ × Data)
only no_members = None
only (member word d no_members) = Some (word, d)
only (member word d (member other e ms)) = None

-- any field may be assigned a value of its kind, or null
abbrev pub assign_by : FieldType → Data → Option Change
assign_by k d = if is_some (as_null d) then Some Clear else option_map Assign (value_of k d)

-- a number is added, taken away, multiplied by or divided by
abbrev pub number_change : List ℕ → ℤ → Option Change
number_change word by = if bytes_eq word (codes "increment") then Some (Increment by)
    else (if bytes_eq word (codes "decrement") then Some (Decrement by)
    else (if bytes_eq word (codes "multiply") then Some (Multiply by)
    else (if bytes_eq word (codes "divide") then Some (Divide by) else None)))

-- items are added to a list
abbrev pub numbers_change : List ℕ → Data → Option Change
numbers_change word d = if bytes_eq word (codes "add") then option_map AddNumbers (list_in whole d) else None

abbrev pub texts_change : List ℕ → Data → Option Change
texts_change word d = if bytes_eq word (codes "add") then option_map AddTexts (list_in as_str d) else None

-- the words of one kind of field alone
abbrev pub own_change : FieldType → List ℕ → Data → Option Change
own_change kind.Int word d = option_and_then (number_change word) (whole d)
own_change kind.Text word d = None
own_change kind.IntArray word d = numbers_change word d
own_change kind.TextArray word d = texts_change word d

abbrev pub change_by : FieldType → List ℕ → Data → Option Change
change_by k word d = if bytes_eq word (codes "assign") then assign_by k d else own_change k word d

-- what a value says of a field of a kind: an object with exactly one word
abbrev pub worded : FieldType → Option (List ℕ × Data) → Option Change
worded k None = None
worded k (Some m) = change_by k m.0 m.1

unfoldable pub change_of : FieldType → Data → Option Change
change_of k d = worded k (option_and_then only (as_object d))

abbrev pub change_for : Option FieldType → Data → Option Change
change_for None d = None
change_for (Some k) d = change_of k d

abbrev pub change_in : Kinds → List ℕ → Data → Option Change
change_in kinds name d = change_for (kinds name) d

-- Which JSON values are schemas, in words that retrace no reader.
use Rattle.std.specs.Prelude.{◌≡◌, ◌≢◌, ◌⊎◌, ℕ, ◌≤◌, true, List, [], ◌∷◌, length, codes, Some, slice_index}
use Rattle.std.specs.List.{AllByRecursion}
use Rattle.std.specs.Char.{is_ascii_alphabetic}
use Rattle.serde_json.specs.Data.{Data, Members, no_members, member}
use Rattle.serde_json.specs.Events.{members_len}
use Rattle.serde_json.specs.Find.{as_object, as_str}
use Rattle.doc_types.specs.Tokens as tokens
use Rattle.doc_types.specs.declared.values.FieldType.{FieldType}
use Rattle.doc_types.specs.declared.values.FieldType.TheVariants as kind

-- the words of selections and queries
abbrev pub reserved : List (List ℕ)
reserved = codes "and" ∷ codes "false" ∷ codes "not" ∷ codes "null" ∷ codes "or" ∷ codes "true"
    ∷ codes "all" ∷ codes "contains" ∷ codes "each" ∷ codes "from" ∷ codes "group" ∷ codes "select" ∷ codes "where"
    ∷ codes "count" ∷ codes "max" ∷ codes "min" ∷ codes "output" ∷ codes "sum" ∷ []

-- the name of a type or a field: an ASCII letter and then up to 63 ASCII letters, digits and `_`, and no word
-- of either language
pub record IsName (name : List ℕ) : Type 0 where
  pub first : is_ascii_alphabetic (slice_index name 0) ≡ true
  pub short : length name ≤ 64
  pub letters : AllByRecursion (λ c. tokens.is_name c ≡ true) name
  pub free : AllByRecursion (λ w. name ≢ w) reserved

-- the word of a kind
abbrev pub kind_word : FieldType → List ℕ
kind_word kind.Int = codes "int"
kind_word kind.Text = codes "text"
kind_word kind.IntArray = codes "ints"
kind_word kind.TextArray = codes "texts"

-- a value is the word of a kind
abbrev pub IsKindWord : Data → Type 0
IsKindWord d = (k : FieldType) × (as_str d ≡ Some (kind_word k))

-- an object has a member of this name with this value
abbrev pub HasMember : Members → List ℕ → Data → Type 0
HasMember no_members name d = ⊥
HasMember (member n e ms) name d = ((n ≡ name) × (e ≡ d)) ⊎ HasMember ms name d

-- at most 32 fields, each with a name and the word of a kind
pub record AreFields (fields : Members) : Type 0 where
  pub few : members_len fields ≤ 32
  pub each : (name : List ℕ) (d : Data) → HasMember fields name d → IsName name × IsKindWord d

-- a value is an object of fields
abbrev pub HasFields : Data → Type 0
HasFields d = (fields : Members) × ((as_object d ≡ Some fields) × AreFields fields)

-- at most 16 types, each with a name and an object of fields
pub record AreTypes (types : Members) : Type 0 where
  pub few : members_len types ≤ 16
  pub each : (name : List ℕ) (d : Data) → HasMember types name d → IsName name × HasFields d

-- a JSON value is a schema
abbrev pub IsSchema : Data → Type 0
IsSchema d = (types : Members) × ((as_object d ≡ Some types) × AreTypes types)

-- Reports as they are written, a token of JSON at a time.
use Rattle.std.specs.Prelude.{◌≡◌, ℕ, ℤ, List, [], ◌∷◌, ◌++◌, map, codes, decimal, Option, String, string_bytes}
use Rattle.std.specs.declared.alloc.Global.{Global}
use Rattle.std.specs.Fmt.{signed_decimal}
use Rattle.json.specs.Token.{Token, begin_object, end_object, begin_array, end_array, key, string, number, boolean}
use Rattle.json.specs.Tree.{json_tokens, members_tokens}
use Rattle.json.specs.Written.{Written}
use Rattle.stamps.specs.declared.stamp.Stamp.{Stamp}
use Rattle.serde_json.specs.Data.{Data, null, string as text, object, Members, no_members, member}
use Rattle.serde_json.specs.Written.{outline, members_outline}
use Rattle.doc_types.specs.declared.values.FieldValue.{FieldValue}
use Rattle.json_documents.specs.Json.{number_json, value_json}
use Rattle.query_groups.specs.declared.answers.Group.{Group}
use Rattle.query_groups.specs.declared.answers.SearchAnswer.{SearchAnswer}
use Rattle.reports.specs.GroupText.{group_members}
use Rattle.reports.specs.ReportText.{line_text, seen_of}
use Rattle.reports.specs.declared.groups.Said.{Said}
use Rattle.reports.specs.declared.groups.Said.TheVariants as said

-- these tokens are appended
pub record Puts (old new : Written) (ts : List Token) : Type 0 where
  pub before : new.before ≡ old.before
  pub tokens : new.tokens ≡ old.tokens ++ ts

-- the line's number and the word of its result
abbrev pub result_tokens : ℕ → List ℕ → List Token
result_tokens line word = key (codes "line") ∷ number (decimal line) ∷ key (codes "result") ∷ string word ∷ []

abbrev pub seen_tokens : Option Stamp → List Token
seen_tokens seen = key (codes "seen") ∷ json_tokens (outline (seen_of seen))

-- what stands before and behind the groups of a search
abbrev pub measure_tokens : SearchAnswer → List Token
measure_tokens found =
    key (codes "count") ∷ number (decimal found.count) ∷ key (codes "covered") ∷ number (decimal found.covered) ∷ key (codes "full") ∷ boolean found.full ∷ []

abbrev pub search_tokens : ℕ → ℕ → List Token
search_tokens line version = key (codes "line") ∷ number (decimal line) ∷ key (codes "result") ∷ string (codes "search") ∷ key (codes "version") ∷ number (decimal version) ∷ []

-- the tokens of numbers, of lists, of a field's value, and of a field
abbrev pub number_token : ℤ → Token
number_token z = number (signed_decimal z)

abbrev pub number_list_tokens : List ℤ → List Token
number_list_tokens numbers = begin_array ∷ (map number_token numbers ++ end_array ∷ [])

abbrev pub text_list_tokens : List (List ℕ) → List Token
text_list_tokens texts = begin_array ∷ (map string texts ++ end_array ∷ [])

abbrev pub value_tokens : FieldValue → List Token
value_tokens value = json_tokens (outline (value_json value))

abbrev pub field_tokens : List ℕ × FieldValue → List Token
field_tokens e = key e.0 ∷ value_tokens e.1

-- what stands under a key of a group of this value
abbrev pub said_json : FieldValue → Said → Data
said_json v said.Value = value_json v
said_json v said.Null = null
said_json v (said.Number z) = number_json z
said_json v (said.Digits z) = text (signed_decimal z)

abbrev pub said_members : FieldValue → List (String Global × Said) → Members
said_members v [] = no_members
said_members v (e ∷ es) = member (string_bytes e.0) (said_json v e.1) (said_members v es)

abbrev pub said_tokens : FieldValue → String Global × Said → List Token
said_tokens v e = key (string_bytes e.0) ∷ json_tokens (outline (said_json v e.1))

abbrev pub group_tokens : Group → List Token
group_tokens g = json_tokens (outline (object (group_members g)))

-- where the tokens are those of members, the bytes are the line of just these
abbrev pub IsWhole : Written → List ℕ → Type 0
IsWhole out bytes = (members : Members) → out.before ≡ [] → out.tokens ++ end_object ∷ [] ≡ begin_object ∷ members_tokens (members_outline members) → bytes ≡ line_text members

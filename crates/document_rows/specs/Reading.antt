-- What searches read of rows: the places, rising, of those documents that pass a test.
use Rattle.std.specs.Prelude.{◌&&◌, ℕ, suc, ℤ, pos, negsuc, Bool, true, false, List, [], ◌∷◌, map, Option, None, Some, option_and_then, slice_index_or, if◌then◌else◌}
use Rattle.std.specs.List.{list_any}
use Rattle.std.specs.FinMap as fin
use Rattle.std.specs.Int.Signed.{◌≤ℤ◌}
use Rattle.std.specs.Str.{bytes_eq}
use Rattle.document_ids.specs.Parts.{type_of}
use Rattle.doc_types.specs.declared.values.FieldValue.{FieldValue}
use Rattle.doc_types.specs.declared.values.FieldValue.TheVariants.{Text, Texts}
use Rattle.documents.specs.Fields.{Contents}
use Rattle.attribute_columns.specs.Columns.{numbers_of, has_number}
use Rattle.word_index.specs.Tokens.{tokens_of}
use Rattle.document_rows.specs.Rows.{Rows}

-- the document at a place
abbrev pub row_at : Rows → ℕ → Option Contents
row_at rows n = slice_index_or rows n None

-- the places from the n-th on of the documents that pass a test
abbrev pub places_from : (Contents → Bool) → ℕ → Rows → List ℕ
places_from p n [] = []
places_from p n (None ∷ rows) = places_from p (suc n) rows
places_from p n (Some d ∷ rows) = if p d then n ∷ places_from p (suc n) rows else places_from p (suc n) rows

abbrev pub places_where : (Contents → Bool) → Rows → List ℕ
places_where p rows = places_from p 0 rows

-- ---- tests of a document

abbrev pub is_any : Contents → Bool
is_any d = true

abbrev pub is_of_type : List ℕ → Contents → Bool
is_of_type name d = bytes_eq (type_of d.id) name

-- the value of a field at a place
abbrev pub value_at : Rows → ℕ → List ℕ → Option FieldValue
value_at rows n field = option_and_then (λ d. fin.get d.fields field) (row_at rows n)

-- the texts of a value: itself or its items; of a number none
abbrev pub texts_in : Option FieldValue → List (List ℕ)
texts_in (Some (Text text)) = text ∷ []
texts_in (Some (Texts texts)) = texts
texts_in _ = []

-- a token of some text of a value
abbrev pub value_has_token : List ℕ → Option FieldValue → Bool
value_has_token token v = list_any (λ tokens. list_any (bytes_eq token) tokens) (map tokens_of (texts_in v))

-- a number that a value is, or has as an item
abbrev pub value_has_number : ℤ → Option FieldValue → Bool
value_has_number q None = false
value_has_number q (Some v) = has_number q (numbers_of v)

-- a document of the type that has the token in the field
abbrev pub has_token : List ℕ → List ℕ → List ℕ → Contents → Bool
has_token name field token d = is_of_type name d && value_has_token token (fin.get d.fields field)

-- a document of the type that has the number in the field
abbrev pub has_number_in : List ℕ → List ℕ → ℤ → Contents → Bool
has_number_in name field q d = is_of_type name d && value_has_number q (fin.get d.fields field)

-- a number of 64 bits with its sign
abbrev pub IsWide : ℤ → Type 0
IsWide q = (negsuc 9223372036854775807 ≤ℤ q) × (q ≤ℤ pos 9223372036854775807)

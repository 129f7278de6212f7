-- Numbers of documents that pass a test.
use Rattle.std.specs.Prelude.{◌≡◌, ◌||◌, ◌<◌, ℕ, ℤ, Bool, true, false, List, [], ◌∷◌, length, Option, None, Some}
use Rattle.std.specs.List.{list_any, AllByRecursion}
use Rattle.std.specs.Ordering.{int_eq}
use Rattle.doc_types.specs.declared.values.FieldValue.{FieldValue}
use Rattle.documents.specs.Fields.{Contents}
use Rattle.attribute_columns.specs.Columns.{numbers_of}
use Rattle.document_rows.specs.Rows.{Rows}
use Rattle.document_rows.specs.Reading.{places_where, has_number_in}

-- a number of a value passes the test
abbrev pub some_number : (ℤ → Bool) → Option FieldValue → Bool
some_number test None = false
some_number test (Some v) = list_any test (numbers_of v)

-- numbers, each with the local ids of the documents that have it
abbrev pub AreLists : List ℕ → List ℕ → Rows → List (ℤ × List ℕ) → Type 0
AreLists name field rows [] = Unit {0}
AreLists name field rows (p ∷ ps) = (p.1 ≡ places_where (has_number_in name field p.0) rows) × AreLists name field rows ps

-- a document that has one of them
abbrev pub has_some : List ℕ → List ℕ → List (ℤ × List ℕ) → Contents → Bool
has_some name field [] d = false
has_some name field (p ∷ ps) d = has_number_in name field p.0 d || has_some name field ps d

-- the numbers of documents that pass a test
pub record AreAll (name field : List ℕ) (rows : Rows) (test : ℤ → Bool) (parts : List (ℤ × List ℕ)) : Type 0 where
  pub lists : AreLists name field rows parts
  pub pass : AllByRecursion (λ p. test p.0 ≡ true) parts
  pub all : (q : ℤ) → test q ≡ true → 0 < length (places_where (has_number_in name field q) rows) → list_any (λ p. int_eq p.0 q) parts ≡ true

-- Documents that have one number at most in a field.
use Rattle.std.specs.Prelude.{◌≡◌, ℕ, Bool, true, false, List, Option, Some}
use Rattle.doc_types.specs.declared.values.FieldValue.{FieldValue}
use Rattle.doc_types.specs.declared.values.FieldValue.TheVariants.{Ints}
use Rattle.documents.specs.Fields.{Contents}
use Rattle.document_indexes.specs.Entering.{cell_of}

-- the value is no list of numbers
abbrev pub is_one : Option FieldValue → Bool
is_one (Some (Ints zs)) = false
is_one _ = true

abbrev pub HaveOne : List ℕ → List ℕ → (ℕ → Option Contents) → Type 0
HaveOne name field g = (n : ℕ) → is_one (cell_of name field (g n)) ≡ true

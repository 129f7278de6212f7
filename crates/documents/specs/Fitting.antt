-- Fields that a type may have.
use Rattle.std.specs.Prelude.{◌≡◌, ℕ, ℤ, pos, negsuc, ◌<◌, ◌≤◌, ◌^◌, List, [], ◌∷◌, length, Some}
use Rattle.std.specs.List.{AllByRecursion}
use Rattle.doc_types.specs.Values.{kind_of}
use Rattle.doc_types.specs.declared.values.FieldValue.{FieldValue}
use Rattle.doc_types.specs.declared.values.FieldValue.TheVariants.{Int, Text, Ints, Texts}
use Rattle.documents.specs.Kinds.{Kinds, most_items}

-- a number below 2^63, as each number of 64 bits with its sign is
abbrev pub IsSmall : ℤ → Type 0
IsSmall (pos n) = n < 2 ^ 63
IsSmall (negsuc n) = Unit {0}

abbrev pub IsStorable : FieldValue → Type 0
IsStorable (Int z) = IsSmall z
IsStorable (Text t) = Unit {0}
IsStorable (Ints zs) = (length zs ≤ most_items) × AllByRecursion IsSmall zs
IsStorable (Texts ts) = length ts ≤ most_items

-- each is a field of the type, of its kind
abbrev pub Fits : Kinds → List (List ℕ × FieldValue) → Type 0
Fits kinds [] = Unit {0}
Fits kinds (e ∷ es) = ((kinds e.0 ≡ Some (kind_of e.1)) × IsStorable e.1) × Fits kinds es

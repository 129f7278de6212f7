-- The outputs of a query, and the fields that they may name.
use Rattle.std.specs.Prelude.{◌≡◌, ◌||◌, ℕ, Bool, true, false, not, List, [], ◌∷◌, ◌++◌, Option, Some, None, option_and_then}
use Rattle.std.specs.List.{list_any}
use Rattle.std.specs.Str.{bytes_eq}
use Rattle.std.specs.FinMap as fin
use Rattle.doc_types.specs.declared.outputs.OutputKind.{OutputKind}
use Rattle.doc_types.specs.declared.outputs.OutputKind.TheVariants as output
use Rattle.doc_types.specs.declared.values.FieldType.{FieldType}
use Rattle.doc_types.specs.declared.values.FieldType.TheVariants as kind
use Rattle.doc_types.specs.SchemaCodes.{Fields, Types}
use Rattle.query_groups.specs.declared.fields.Fold.{Fold}
use Rattle.query_groups.specs.declared.fields.Fold.TheVariants as fold

abbrev pub field_kind : Types → List ℕ → List ℕ → Option FieldType
field_kind types name field = option_and_then (λ fields. fin.get fields field) (fin.get types name)

abbrev pub output_of : Fold → List ℕ → OutputKind
output_of fold.Sum field = output.Sum field
output_of fold.Min field = output.Min field
output_of fold.Max field = output.Max field

abbrev pub same_output : OutputKind → OutputKind → Bool
same_output output.Count output.Count = true
same_output (output.Sum a) (output.Sum b) = bytes_eq a b
same_output (output.Min a) (output.Min b) = bytes_eq a b
same_output (output.Max a) (output.Max b) = bytes_eq a b
same_output _ _ = false

abbrev pub is_named : OutputKind → List OutputKind → Bool
is_named o os = list_any (same_output o) os

-- no output is one of those before it, behind some that are named already
abbrev pub NamedOnce : List OutputKind → List OutputKind → Type 0
NamedOnce named [] = Unit {0}
NamedOnce named (o ∷ os) = (is_named o named ≡ false) × NamedOnce (named ++ o ∷ []) os

-- sum, minimum and maximum are of an int field
abbrev pub OutputFits : Types → List ℕ → OutputKind → Type 0
OutputFits types name output.Count = Unit {0}
OutputFits types name (output.Sum field) = field_kind types name field ≡ Some kind.Int
OutputFits types name (output.Min field) = field_kind types name field ≡ Some kind.Int
OutputFits types name (output.Max field) = field_kind types name field ≡ Some kind.Int

abbrev pub OutputsFit : Types → List ℕ → List OutputKind → Type 0
OutputsFit types name [] = Unit {0}
OutputsFit types name (o ∷ os) = OutputFits types name o × OutputsFit types name os

-- the names of the fields of a type
abbrev pub names_in : Option Fields → List (List ℕ)
names_in None = []
names_in (Some fields) = fin.keys fields

-- some field of a type passes a test of its name and kind
abbrev pub some_field : Types → List ℕ → (List ℕ → Option FieldType → Bool) → Bool
some_field types name test = list_any (λ field. test field (field_kind types name field)) (names_in (fin.get types name))

-- groups are by an int or a text
abbrev pub groups_by : Option FieldType → Bool
groups_by (Some kind.Int) = true
groups_by (Some kind.Text) = true
groups_by _ = false

abbrev pub has_groups : Types → List ℕ → Bool
has_groups types name = some_field types name (λ field k. groups_by k)

-- an int field that isn't yet named so
abbrev pub is_free : Fold → List OutputKind → List ℕ → Option FieldType → Bool
is_free o outputs field (Some kind.Int) = not (is_named (output_of o field) outputs)
is_free o outputs field _ = false

abbrev pub some_free : Types → List ℕ → List OutputKind → Fold → Bool
some_free types name outputs o = some_field types name (is_free o outputs)

-- an output is left
abbrev pub some_left : Types → List ℕ → List OutputKind → Bool
some_left types name outputs = not (is_named output.Count outputs) || (some_free types name outputs fold.Sum || (some_free types name outputs fold.Min || some_free types name outputs fold.Max))

-- The fields of a document one after the other, and what they leave in the indexes of fields.
use Rattle.std.specs.Prelude.{◌≡◌, ◌⊎◌, ◌&&◌, ℕ, Bool, true, false, List, [], ◌∷◌, Option, None, Some, option_map, IfSome, if◌then◌else◌}
use Rattle.std.specs.List.{list_any}
use Rattle.std.specs.FinMap as fin
use Rattle.std.specs.Str.{bytes_eq}
use Rattle.document_ids.specs.Parts.{type_of}
use Rattle.doc_types.specs.Values.{kind_of}
use Rattle.doc_types.specs.declared.values.FieldType.{FieldType}
use Rattle.doc_types.specs.declared.values.FieldValue.{FieldValue}
use Rattle.documents.specs.Fields.{Contents}
use Rattle.attribute_columns.specs.Columns.{Held}
use Rattle.field_indexes.specs.Fields.{Fields}

abbrev pub Pairs : Type 0
Pairs = List (List ℕ × FieldValue)

abbrev pub has_name : List ℕ → Pairs → Bool
has_name f es = list_any (λ e. bytes_eq f e.0) es

-- each name comes once
abbrev pub AreNamed : Pairs → Type 0
AreNamed [] = Unit {0}
AreNamed (e ∷ es) = (has_name e.0 es ≡ false) × AreNamed es

-- the value of a name
abbrev pub value_of : List ℕ → Pairs → Option FieldValue
value_of f [] = None
value_of f (e ∷ es) = if bytes_eq f e.0 then Some e.1 else value_of f es

-- a field of this type with one of these names
abbrev pub is_named : List ℕ → Pairs → List ℕ → List ℕ → Bool
is_named name es n f = bytes_eq name n && has_name f es

-- ---- kinds

abbrev pub kind_at : Fields → List ℕ → List ℕ → Option FieldType
kind_at fields n f = option_map (λ h. h.kind) (fields n f)

-- each value is of the kind that its field has so far
abbrev pub DoFit : Fields → List ℕ → Pairs → Type 0
DoFit fields name es = (f : List ℕ) → IfSome (value_of f es) (λ v. IfSome (fields name f) (λ h. kind_of v ≡ h.kind))

-- a field is of the kind that it had, or of that of its new value
abbrev pub ComesFrom : Fields → List ℕ → Pairs → List ℕ → List ℕ → Held → Type 0
ComesFrom old name es n f h = (kind_at old n f ≡ Some h.kind) ⊎ ((bytes_eq name n ≡ true) × (option_map kind_of (value_of f es) ≡ Some h.kind))

-- ---- cells

-- the value of a document in a field of a type
abbrev pub cell_of : List ℕ → List ℕ → Option Contents → Option FieldValue
cell_of n f None = None
cell_of n f (Some d) = if bytes_eq (type_of d.id) n then fin.get d.fields f else None

-- ---- columns

-- what is lent of a field: just what the documents of a type have there, each value of the field's kind; or nothing, where
-- none has a value
pub record IsColumn (name field : List ℕ) (g : ℕ → Option Contents) (h : Held) : Type 0 where
  pub cells : (n : ℕ) → fin.get h.values n ≡ cell_of name field (g n)
  pub kinds : (n : ℕ) → IfSome (fin.get h.values n) (λ v. kind_of v ≡ h.kind)

abbrev pub IsLent : List ℕ → List ℕ → (ℕ → Option Contents) → Option Held → Type 0
IsLent name field g None = (n : ℕ) → cell_of name field (g n) ≡ None
IsLent name field g (Some h) = IsColumn name field g h

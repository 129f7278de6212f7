-- Fields of types, field by field.
use Rattle.std.proofs.Common.{◌≡◌, ℕ, ◌&&◌, Bool, true, false, cond, List, refl, sym, ap, ap₂, subst, ◌∙◌, Option, Some, None, option_map, bytes_eq, String}
use Rattle.std.specs.BTreeMap.{BTreeMap, get_by_text}
use Rattle.attribute_columns.specs.Columns.{Held}
use Rattle.field_indexes.specs.Fields.{Fields, is_field, field_in, field_at}
use Rattle.field_indexes.proofs.WordLaws.{same_bytes}

pub same_at : {X : Type 0} (get : List ℕ → X) (word q : List ℕ) → cond (bytes_eq word q) (get word) (get q) ≡ get q
same_at {X} get word q = by_test (bytes_eq word q) refl
  where
    by_test : (t : Bool) → bytes_eq word q ≡ t → cond t (get word) (get q) ≡ get q
    by_test true e = ap get (same_bytes word q e)
    by_test false e = refl

-- what is in no map isn't changed
pub none_changed : {X : Type 0} (get : List ℕ → Option X) (h : X → X) (word q : List ℕ) → get word ≡ None → get q ≡ cond (bytes_eq word q) (option_map h (get word)) (get q)
none_changed {X} get h word q none = by_test (bytes_eq word q) refl
  where
    by_test : (t : Bool) → bytes_eq word q ≡ t → get q ≡ cond t (option_map h (get word)) (get q)
    by_test true e = sym (ap get (same_bytes word q e)) ∙ none ∙ sym (ap (option_map h) none)
    by_test false e = refl

-- ---- a map of maps, of which one was changed at one name

lifted : (old new : Fields) (row row' : List ℕ → Option Held) (name field : List ℕ) (p : Option Held)
    → ((n f : List ℕ) → new n f ≡ cond (bytes_eq name n) (row' f) (old n f)) → ((f : List ℕ) → old name f ≡ row f) → ((f : List ℕ) → row' f ≡ cond (bytes_eq field f) p (row f))
    → (n f : List ℕ) → new n f ≡ cond (is_field name field n f) p (old n f)
lifted old new row row' name field p a b c n f = a n f ∙ by_test (bytes_eq name n) refl
  where
    by_test : (t : Bool) → bytes_eq name n ≡ t → cond t (row' f) (old n f) ≡ cond (t && bytes_eq field f) p (old n f)
    by_test true e = c f ∙ ap (cond (bytes_eq field f) p) (sym (b f) ∙ ap (λ x. old x f) (same_bytes name n e))
    by_test false e = refl

field_of : {Y : Type 0} (t : Bool) (fields : BTreeMap (String Y) Held) (o : Option (BTreeMap (String Y) Held)) (f : List ℕ) → field_in (cond t (Some fields) o) f ≡ cond t (get_by_text fields f) (field_in o f)
field_of true fields o f = refl
field_of false fields o f = refl

pub row_changed : {Y Z : Type 0} (types new : BTreeMap (String Y) (BTreeMap (String Z) Held)) (fields : BTreeMap (String Z) Held) (row : List ℕ → Option Held) (name field : List ℕ) (p : Option Held)
    → ((n : List ℕ) → get_by_text new n ≡ cond (bytes_eq name n) (Some fields) (get_by_text types n))
    → ((f : List ℕ) → field_at types name f ≡ row f) → ((f : List ℕ) → get_by_text fields f ≡ cond (bytes_eq field f) p (row f))
    → (n f : List ℕ) → field_at new n f ≡ cond (is_field name field n f) p (field_at types n f)
row_changed types new fields row name field p a b c = lifted (field_at types) (field_at new) row (get_by_text fields) name field p
    (λ n f. ap (λ o. field_in o f) (a n) ∙ field_of (bytes_eq name n) fields (get_by_text types n) f) b c

pub row_same : {Y Z : Type 0} (types new : BTreeMap (String Y) (BTreeMap (String Z) Held)) (fields old : BTreeMap (String Z) Held) (name : List ℕ)
    → ((n : List ℕ) → get_by_text new n ≡ cond (bytes_eq name n) (Some fields) (get_by_text types n)) → get_by_text types name ≡ Some old
    → ((f : List ℕ) → get_by_text fields f ≡ get_by_text old f) → (n f : List ℕ) → field_at new n f ≡ field_at types n f
row_same types new fields old name a b c n f = ap (λ o. field_in o f) (a n) ∙ field_of (bytes_eq name n) fields (get_by_text types n) f
    ∙ ap (λ o. cond (bytes_eq name n) o (field_at types n f)) (c f ∙ sym (ap (λ o. field_in o f) b)) ∙ same_at (λ x. field_at types x f) name n

-- nothing is changed where there is no such field
pub none_in : (fields : Fields) (h : Held → Held) (name field : List ℕ) → fields name field ≡ None → (n f : List ℕ) → fields n f ≡ cond (is_field name field n f) (option_map h (fields name field)) (fields n f)
none_in fields h name field none n f = by_tests (bytes_eq name n) (bytes_eq field f) refl refl
  where
    by_tests : (t u : Bool) → bytes_eq name n ≡ t → bytes_eq field f ≡ u → fields n f ≡ cond (t && u) (option_map h (fields name field)) (fields n f)
    by_tests true true e g = sym (ap₂ fields (same_bytes name n e) (same_bytes field f g)) ∙ none ∙ sym (ap (option_map h) none)
    by_tests true false e g = refl
    by_tests false u e g = refl

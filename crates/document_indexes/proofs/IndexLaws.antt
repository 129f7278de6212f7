-- What an index of documents reads after a change.
use Rattle.std.proofs.Common.{◌≡◌, ◌≢◌, ℕ, ◌==◌, ◌&&◌, Bool, true, false, cond, List, refl, sym, ap, subst, ◌∙◌, Option, Some, None, bytes_eq}
use Rattle.std.specs.List.{Contains}
use Rattle.std.specs.FinMap as fin
use Rattle.proof_basics.proofs.Tests.{clash}
use Rattle.doc_types.specs.declared.values.FieldValue.{FieldValue}
use Rattle.documents.specs.Fields.{Contents}
use Rattle.document_ids.specs.Parts.{type_of}
use Rattle.local_ids.specs.Rising.{IsRising, with_local, without_local, moved_local}
use Rattle.word_index.specs.Index.{Index, list_of, with_word, without_word, with_moved}
use Rattle.word_index.proofs.IndexLaws.{list_with, list_without, list_moved}
use Rattle.field_indexes.specs.Fields.{Fields, cell}
use Rattle.field_indexes.proofs.WordLaws.{same_bytes, undone}
use Rattle.document_indexes.specs.Entering.{Pairs, value_of, is_named, cell_of}
use Rattle.document_indexes.proofs.CellLaws.{same_number}
use Rattle.document_indexes.proofs.PairLaws.{cell_there, cell_absent}

-- ---- the list of a type

same_list : (g : List ℕ → List ℕ) (m : Index) (w n : List ℕ) → cond (bytes_eq w n) (g (list_of w m)) (list_of n m) ≡ cond (bytes_eq w n) (g (list_of n m)) (list_of n m)
same_list g m w n = by_test (bytes_eq w n) refl
  where
    by_test : (t : Bool) → bytes_eq w n ≡ t → cond t (g (list_of w m)) (list_of n m) ≡ cond t (g (list_of n m)) (list_of n m)
    by_test true e = ap (λ y. g (list_of y m)) (same_bytes w n e)
    by_test false e = refl

pub listed_with : (m new : Index) (w own n : List ℕ) (x : ℕ) → new ≡ with_word w x m → w ≡ own → list_of n new ≡ cond (bytes_eq own n) (with_local x (list_of n m)) (list_of n m)
listed_with m new w own n x e f = ap (list_of n) e ∙ list_with w n x m ∙ same_list (with_local x) m w n ∙ ap (λ y. cond (bytes_eq y n) (with_local x (list_of n m)) (list_of n m)) f

pub listed_without : (m new : Index) (w own n : List ℕ) (x : ℕ) → new ≡ without_word w x m → w ≡ own → list_of n new ≡ cond (bytes_eq own n) (without_local x (list_of n m)) (list_of n m)
listed_without m new w own n x e f = ap (list_of n) e ∙ list_without w n x m ∙ same_list (without_local x) m w n ∙ ap (λ y. cond (bytes_eq y n) (without_local x (list_of n m)) (list_of n m)) f

pub listed_moved : (m new : Index) (w own n : List ℕ) (x z : ℕ) → new ≡ with_moved w x z m → w ≡ own → list_of n new ≡ cond (bytes_eq own n) (moved_local x z (list_of n m)) (list_of n m)
listed_moved m new w own n x z e f = ap (list_of n) e ∙ list_moved w n x z m ∙ same_list (moved_local x z) m w n ∙ ap (λ y. cond (bytes_eq y n) (moved_local x z (list_of n m)) (list_of n m)) f

pub listed_back : (m mid new : Index) (own n : List ℕ) (x : ℕ) → IsRising (list_of own m) → (Contains (list_of own m) x → ⊥)
    → list_of n mid ≡ cond (bytes_eq own n) (with_local x (list_of n m)) (list_of n m) → list_of n new ≡ cond (bytes_eq own n) (without_local x (list_of n mid)) (list_of n mid) → list_of n new ≡ list_of n m
listed_back m mid new own n x r f a b = by_test (bytes_eq own n) refl a b
  where
    by_test : (t : Bool) → bytes_eq own n ≡ t → list_of n mid ≡ cond t (with_local x (list_of n m)) (list_of n m) → list_of n new ≡ cond t (without_local x (list_of n mid)) (list_of n mid) → list_of n new ≡ list_of n m
    by_test true e g h =
        (let same = same_bytes own n e in
        undone x true (list_of n m) (list_of n mid) (list_of n new) (subst (λ y. IsRising (list_of y m)) same r) (λ _ i. f (subst (λ y. Contains (list_of y m) x) (sym same) i)) g h)
    by_test false e g h = h ∙ g

-- ---- cells

pub cells_entered : (d : Contents) (name n f : List ℕ) (es : Pairs) (k l : ℕ) (new : Option FieldValue) (old : ℕ → Option FieldValue) → name ≡ type_of d.id → es ≡ fin.entries d.fields → old l ≡ None
    → new ≡ cond ((k == l) && bytes_eq name n) (value_of f es) (old k) → new ≡ cond (k == l) (cell_of n f (Some d)) (old k)
cells_entered d name n f es k l new old e g free a = by_tests (k == l) (bytes_eq name n) refl a (cell_there d name n f es e g)
  where
    by_tests : (t u : Bool) → (k == l) ≡ t → new ≡ cond (t && u) (value_of f es) (old k) → cell_of n f (Some d) ≡ cond u (value_of f es) None → new ≡ cond t (cell_of n f (Some d)) (old k)
    by_tests true true h i j = i ∙ sym j
    by_tests true false h i j = i ∙ ap old (same_number k l h) ∙ free ∙ sym j
    by_tests false u h i j = i

pub cells_left : (d : Contents) (name n f : List ℕ) (es : Pairs) (k l : ℕ) (new : Option FieldValue) (old : ℕ → Option FieldValue) → name ≡ type_of d.id → es ≡ fin.entries d.fields → old l ≡ cell_of n f (Some d)
    → new ≡ cond ((k == l) && is_named name es n f) None (old k) → new ≡ cond (k == l) None (old k)
cells_left d name n f es k l new old e g own a = by_tests (k == l) (is_named name es n f) refl refl a
  where
    by_tests : (t u : Bool) → (k == l) ≡ t → is_named name es n f ≡ u → new ≡ cond (t && u) None (old k) → new ≡ cond t None (old k)
    by_tests true true h j i = i
    by_tests true false h j i = i ∙ ap old (same_number k l h) ∙ own ∙ cell_absent d name n f es e g j
    by_tests false u h j i = i

pub cells_moved : (d : Contents) (name n f : List ℕ) (es : Pairs) (k x z : ℕ) (new : Option FieldValue) (old : ℕ → Option FieldValue) → name ≡ type_of d.id → es ≡ fin.entries d.fields
    → old x ≡ cell_of n f (Some d) → old z ≡ None
    → new ≡ cond (is_named name es n f) (cond (k == z) (old x) (cond (k == x) None (old k))) (old k) → new ≡ cond (k == z) (cell_of n f (Some d)) (cond (k == x) None (old k))
cells_moved d name n f es k x z new old e g own free a = by_test (is_named name es n f) refl a
  where
    others : (t u : Bool) → (k == z) ≡ t → (k == x) ≡ u → cell_of n f (Some d) ≡ None → new ≡ old k → new ≡ cond t (cell_of n f (Some d)) (cond u None (old k))
    others true u h i j b = b ∙ ap old (same_number k z h) ∙ free ∙ sym j
    others false true h i j b = b ∙ ap old (same_number k x i) ∙ own ∙ j
    others false false h i j b = b

    by_test : (t : Bool) → is_named name es n f ≡ t → new ≡ cond t (cond (k == z) (old x) (cond (k == x) None (old k))) (old k) → new ≡ cond (k == z) (cell_of n f (Some d)) (cond (k == x) None (old k))
    by_test true j b = b ∙ ap (λ o. cond (k == z) o (cond (k == x) None (old k))) own
    by_test false j b = others (k == z) (k == x) refl refl (cell_absent d name n f es e g j) b

-- What a change of rows leaves of each document.
use Rattle.std.proofs.Common.{◌≡◌, ℕ, Bool, true, false, cond, ◌||◌, List, [], ◌∷◌, Option, None, Some, refl, sym, ap, subst, ◌∙◌}
use mathlib.Core.Bool.{true≢false}
use Rattle.std.specs.Str.{bytes_eq}
use Rattle.std.proofs.lemmas.Slice.Eq.{bytes_eq-Decides}
use Rattle.documents.specs.Fields.{Contents}
use Rattle.document_rows.specs.Rows.{Rows, has_row, document_of, replaced, without, put_free, AreDistinct}

pub same_id : (a b : List ℕ) → bytes_eq a b ≡ true → a ≡ b
same_id a b h = (bytes_eq-Decides a b).0 h

pub own_id : (a : List ℕ) → bytes_eq a a ≡ true
own_id a = (bytes_eq-Decides a a).1 refl

-- where two ids are one, a third is or isn't either
pub as_other : (a b q : List ℕ) → bytes_eq a b ≡ true → bytes_eq a q ≡ bytes_eq b q
as_other a b q h = ap (λ x. bytes_eq x q) (same_id a b h)

-- and where a third is one of them and not the other, they differ
pub differ : (a b q : List ℕ) → bytes_eq a q ≡ true → bytes_eq b q ≡ false → bytes_eq a b ≡ false
differ a b q h k = by_test (bytes_eq a b) refl
  where
    by_test : (t : Bool) → bytes_eq a b ≡ t → t ≡ false
    by_test true e = absurd (true≢false (sym h ∙ (as_other a b q e ∙ k)))
    by_test false e = refl

-- ---- a document at its place

replaced-other : (d : Contents) (q : List ℕ) → bytes_eq d.id q ≡ false → (rows : Rows) → document_of q (replaced d rows) ≡ document_of q rows
replaced-other d q w [] = refl
replaced-other d q w (None ∷ rows) = replaced-other d q w rows
replaced-other d q w (Some e ∷ rows) = step (bytes_eq e.id d.id) refl (replaced-other d q w rows)
  where
    step : (t : Bool) → bytes_eq e.id d.id ≡ t → document_of q (replaced d rows) ≡ document_of q rows → document_of q (cond t (Some d) (Some e) ∷ replaced d rows) ≡ document_of q (Some e ∷ rows)
    step true is ih = let u : bytes_eq e.id q ≡ false = as_other e.id d.id q is ∙ w in rw (w, u, ih) refl
    step false is ih = rw ih refl

replaced-own : (d : Contents) (rows : Rows) → has_row d.id rows ≡ true → document_of d.id (replaced d rows) ≡ Some d
replaced-own d [] h = absurd (true≢false (sym h))
replaced-own d (None ∷ rows) h = replaced-own d rows h
replaced-own d (Some e ∷ rows) h = step (bytes_eq e.id d.id) refl h (replaced-own d rows)
  where
    step : (t : Bool) → bytes_eq e.id d.id ≡ t → t || has_row d.id rows ≡ true → (has_row d.id rows ≡ true → document_of d.id (replaced d rows) ≡ Some d) → document_of d.id (cond t (Some d) (Some e) ∷ replaced d rows) ≡ Some d
    step true is k ih = rw (own_id d.id) refl
    step false is k ih = rw is (ih k)

pub replaced-is : (d : Contents) (q : List ℕ) (rows : Rows) → has_row d.id rows ≡ true → document_of q (replaced d rows) ≡ cond (bytes_eq d.id q) (Some d) (document_of q rows)
replaced-is d q rows h = by_test (bytes_eq d.id q) refl
  where
    by_test : (t : Bool) → bytes_eq d.id q ≡ t → document_of q (replaced d rows) ≡ cond t (Some d) (document_of q rows)
    by_test true e = subst (λ x. document_of x (replaced d rows) ≡ Some d) (same_id d.id q e) (replaced-own d rows h)
    by_test false e = replaced-other d q e rows

-- ---- a free place

put-other : (d : Contents) (q : List ℕ) → bytes_eq d.id q ≡ false → (rows : Rows) → document_of q (put_free d rows) ≡ document_of q rows
put-other d q w [] = rw w refl
put-other d q w (None ∷ rows) = rw w refl
put-other d q w (Some e ∷ rows) = rw (put-other d q w rows) refl

put-own : (d : Contents) (rows : Rows) → has_row d.id rows ≡ false → document_of d.id (put_free d rows) ≡ Some d
put-own d [] h = rw (own_id d.id) refl
put-own d (None ∷ rows) h = rw (own_id d.id) refl
put-own d (Some e ∷ rows) h = step (bytes_eq e.id d.id) refl h (put-own d rows)
  where
    step : (t : Bool) → bytes_eq e.id d.id ≡ t → t || has_row d.id rows ≡ false → (has_row d.id rows ≡ false → document_of d.id (put_free d rows) ≡ Some d) → cond t (Some e) (document_of d.id (put_free d rows)) ≡ Some d
    step true is k ih = absurd (true≢false k)
    step false is k ih = ih k

pub put-is : (d : Contents) (q : List ℕ) (rows : Rows) → has_row d.id rows ≡ false → document_of q (put_free d rows) ≡ cond (bytes_eq d.id q) (Some d) (document_of q rows)
put-is d q rows h = by_test (bytes_eq d.id q) refl
  where
    by_test : (t : Bool) → bytes_eq d.id q ≡ t → document_of q (put_free d rows) ≡ cond t (Some d) (document_of q rows)
    by_test true e = subst (λ x. document_of x (put_free d rows) ≡ Some d) (same_id d.id q e) (put-own d rows h)
    by_test false e = put-other d q e rows

-- ---- a place that becomes free

pub without-is : (id q : List ℕ) (rows : Rows) → document_of q (without id rows) ≡ cond (bytes_eq id q) None (document_of q rows)
without-is id q [] = by_test (bytes_eq id q)
  where
    by_test : (t : Bool) → ◌≡◌ {A = Option Contents} None (cond t None None)
    by_test true = refl
    by_test false = refl
without-is id q (None ∷ rows) = without-is id q rows
without-is id q (Some e ∷ rows) = step (bytes_eq e.id id) (bytes_eq id q) (bytes_eq e.id q) refl refl refl (without-is id q rows)
  where
    step : (t w u : Bool) → bytes_eq e.id id ≡ t → bytes_eq id q ≡ w → bytes_eq e.id q ≡ u → document_of q (without id rows) ≡ cond (bytes_eq id q) None (document_of q rows) → document_of q (cond t None (Some e) ∷ without id rows) ≡ cond w None (cond u (Some e) (document_of q rows))
    step true true u a b c ih = ih ∙ rw b refl
    step true false u a b c ih = let none : u ≡ false = sym c ∙ (as_other e.id id q a ∙ b) in ih ∙ rw (b, none) refl
    step false true true a b c ih = absurd (true≢false (sym c ∙ (ap (bytes_eq e.id) (sym (same_id id q b)) ∙ a)))
    step false true false a b c ih = rw c (ih ∙ rw b refl)
    step false false true a b c ih = rw c refl
    step false false false a b c ih = rw c (ih ∙ rw b refl)

-- ---- which documents are there

pub has-replaced : (d : Contents) (q : List ℕ) (rows : Rows) → has_row q (replaced d rows) ≡ has_row q rows
has-replaced d q [] = refl
has-replaced d q (None ∷ rows) = has-replaced d q rows
has-replaced d q (Some e ∷ rows) = step (bytes_eq e.id d.id) refl (has-replaced d q rows)
  where
    step : (t : Bool) → bytes_eq e.id d.id ≡ t → has_row q (replaced d rows) ≡ has_row q rows → has_row q (cond t (Some d) (Some e) ∷ replaced d rows) ≡ has_row q (Some e ∷ rows)
    step true is ih = rw (as_other e.id d.id q is, ih) refl
    step false is ih = rw ih refl

pub has-without : (id q : List ℕ) (rows : Rows) → has_row q rows ≡ false → has_row q (without id rows) ≡ false
has-without id q [] h = refl
has-without id q (None ∷ rows) h = has-without id q rows h
has-without id q (Some e ∷ rows) h = step (bytes_eq e.id id) (bytes_eq e.id q) refl h (has-without id q rows)
  where
    step : (t u : Bool) → bytes_eq e.id q ≡ u → u || has_row q rows ≡ false → (has_row q rows ≡ false → has_row q (without id rows) ≡ false) → has_row q (cond t None (Some e) ∷ without id rows) ≡ false
    step t true is k ih = absurd (true≢false k)
    step true false is k ih = ih k
    step false false is k ih = rw is (ih k)

pub has-put : (d : Contents) (q : List ℕ) (rows : Rows) → bytes_eq d.id q ≡ false → has_row q rows ≡ false → has_row q (put_free d rows) ≡ false
has-put d q [] w h = rw w refl
has-put d q (None ∷ rows) w h = rw w h
has-put d q (Some e ∷ rows) w h = step (bytes_eq e.id q) refl h (has-put d q rows w)
  where
    step : (u : Bool) → bytes_eq e.id q ≡ u → u || has_row q rows ≡ false → (has_row q rows ≡ false → has_row q (put_free d rows) ≡ false) → u || has_row q (put_free d rows) ≡ false
    step true is k ih = absurd (true≢false k)
    step false is k ih = ih k

-- ---- no document has two places

pub distinct-replaced : (d : Contents) (rows : Rows) → AreDistinct rows → AreDistinct (replaced d rows)
distinct-replaced d [] h = tt
distinct-replaced d (None ∷ rows) h = distinct-replaced d rows h
distinct-replaced d (Some e ∷ rows) h = step (bytes_eq e.id d.id) refl (distinct-replaced d rows h.1)
  where
    step : (t : Bool) → bytes_eq e.id d.id ≡ t → AreDistinct (replaced d rows) → AreDistinct (cond t (Some d) (Some e) ∷ replaced d rows)
    step true is ih = (has-replaced d d.id rows ∙ subst (λ x. has_row x rows ≡ false) (same_id e.id d.id is) h.0, ih)
    step false is ih = (has-replaced d e.id rows ∙ h.0, ih)

pub distinct-without : (id : List ℕ) (rows : Rows) → AreDistinct rows → AreDistinct (without id rows)
distinct-without id [] h = tt
distinct-without id (None ∷ rows) h = distinct-without id rows h
distinct-without id (Some e ∷ rows) h = step (bytes_eq e.id id) (distinct-without id rows h.1)
  where
    step : (t : Bool) → AreDistinct (without id rows) → AreDistinct (cond t None (Some e) ∷ without id rows)
    step true ih = ih
    step false ih = (has-without id e.id rows h.0, ih)

pub distinct-put : (d : Contents) (rows : Rows) → has_row d.id rows ≡ false → AreDistinct rows → AreDistinct (put_free d rows)
distinct-put d [] new h = (refl, tt)
distinct-put d (None ∷ rows) new h = (new, h)
distinct-put d (Some e ∷ rows) new h = step (bytes_eq e.id d.id) refl new (distinct-put d rows)
  where
    turned : bytes_eq e.id d.id ≡ false → bytes_eq d.id e.id ≡ false
    turned f = differ d.id e.id d.id (own_id d.id) f

    step : (t : Bool) → bytes_eq e.id d.id ≡ t → t || has_row d.id rows ≡ false → (has_row d.id rows ≡ false → AreDistinct rows → AreDistinct (put_free d rows)) → AreDistinct (Some e ∷ put_free d rows)
    step true is k ih = absurd (true≢false k)
    step false is k ih = (has-put d e.id rows (turned is) h.0, ih k h.1)

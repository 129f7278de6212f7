-- Rising lists of the places that a test tells, after a change of one place; and documents that differ.
use Rattle.std.proofs.Common.{◌≡◌, ◌≢◌, ◌↔◌, inl, inr, ℕ, zero, suc, ◌≤◌, ◌==◌, ◌||◌, Bool, true, false, cond, List, [], ◌∷◌, length, None, Some, refl, sym, ap, ap₂, ◌∙◌, arith}
use Rattle.std.specs.List.{Contains}
use Rattle.std.specs.Str.{bytes_eq}
use Rattle.std.proofs.lemmas.Bool.Decides.{nat_tests}
use Rattle.proof_basics.proofs.Numbers.{same-nat}
use Rattle.proof_basics.proofs.Tests.{clash}
use Rattle.proof_basics.proofs.Options.{none_some}
use Rattle.local_ids.specs.Rising.{IsRising, with_local, without_local, moved_local}
use Rattle.local_ids.proofs.RisingLaws.{with_rises, without_rises, with_has, without_has}
use Rattle.local_ids.proofs.MoveLaws.{moved_rises, moved_has}
use Rattle.documents.specs.Fields.{Contents}
use Rattle.document_rows.specs.Rows.{Rows, is_of, has_row, AreDistinct}
use Rattle.document_rows.specs.Reading.{row_at}
use Rattle.document_rows.proofs.RowLaws.{same_id, own_id}
use Rattle.node_rows.specs.Kept.{Board, passes, set_at, Tells}

pub same_number : (k l : ℕ) → (k == l) ≡ true → k ≡ l
same_number k l e = grind (arith, nat_tests)

other_number : (k l : ℕ) → (k == l) ≡ false → k ≢ l
other_number k l e s = clash (ap (λ z. z == l) s ∙ same-nat l) e

pub rises_with : (t : Bool) (l : ℕ) (xs : List ℕ) → IsRising xs → IsRising (cond t (with_local l xs) xs)
rises_with true l xs r = with_rises l xs r
rises_with false l xs r = r

pub rises_without : (t : Bool) (l : ℕ) (xs : List ℕ) → IsRising xs → IsRising (cond t (without_local l xs) xs)
rises_without true l xs r = without_rises l xs r
rises_without false l xs r = r

pub rises_moved : (t : Bool) (x z : ℕ) (xs : List ℕ) → IsRising xs → IsRising (cond t (moved_local x z xs) xs)
rises_moved true x z xs r = moved_rises x z xs r
rises_moved false x z xs r = r

-- no document is at a free place
none_at : (p : Contents → Bool) (g : Board) (xs : List ℕ) (l k : ℕ) → Tells p g xs → g l ≡ None → (k == l) ≡ true → Contains xs k → ⊥
none_at p g xs l k is free e h = clash ((is k).0 h) (ap (λ j. passes p (g j)) (same_number k l e) ∙ ap (passes p) free)

-- nor one that doesn't pass
fails_at : (p : Contents → Bool) (g : Board) (d : Contents) (xs : List ℕ) (l k : ℕ) → Tells p g xs → g l ≡ Some d → p d ≡ false → (k == l) ≡ true → Contains xs k → ⊥
fails_at p g d xs l k is own f e h = clash ((is k).0 h) (ap (λ j. passes p (g j)) (same_number k l e) ∙ ap (passes p) own ∙ f)

pub tells_with : (p : Contents → Bool) (g : Board) (d : Contents) (xs : List ℕ) (l : ℕ) → IsRising xs → Tells p g xs → g l ≡ None → Tells p (λ k. cond (k == l) (Some d) (g k)) (cond (p d) (with_local l xs) xs)
tells_with p g d xs l r is free k = by_tests (p d) (k == l) refl refl
  where
    by_tests : (t u : Bool) → p d ≡ t → (k == l) ≡ u → Contains (cond t (with_local l xs) xs) k ↔ (passes p (cond u (Some d) (g k)) ≡ true)
    by_tests true true e f = (λ h. e, λ h. (with_has l k xs r).1 (inl (same_number k l f)))
    by_tests true false e f = (λ h. elim ((with_has l k xs r).0 h) [ inl s ↦ absurd (other_number k l f s) | inr i ↦ (is k).0 i ], λ h. (with_has l k xs r).1 (inr ((is k).1 h)))
    by_tests false true e f = (λ h. absurd (none_at p g xs l k is free f h), λ h. clash h e)
    by_tests false false e f = is k

pub tells_without : (p : Contents → Bool) (g : Board) (d : Contents) (xs : List ℕ) (l : ℕ) → Tells p g xs → g l ≡ Some d → Tells p (λ k. cond (k == l) None (g k)) (cond (p d) (without_local l xs) xs)
tells_without p g d xs l is own k = by_tests (p d) (k == l) refl refl
  where
    by_tests : (t u : Bool) → p d ≡ t → (k == l) ≡ u → Contains (cond t (without_local l xs) xs) k ↔ (passes p (cond u None (g k)) ≡ true)
    by_tests true true e f = (λ h. absurd (((without_has l k xs).0 h).1 (same_number k l f)), λ h. clash h refl)
    by_tests true false e f = (λ h. (is k).0 ((without_has l k xs).0 h).0, λ h. (without_has l k xs).1 ((is k).1 h, other_number k l f))
    by_tests false true e f = (λ h. absurd (fails_at p g d xs l k is own e f h), λ h. clash h refl)
    by_tests false false e f = is k

pub tells_moved : (p : Contents → Bool) (g : Board) (d : Contents) (xs : List ℕ) (x z : ℕ) → IsRising xs → Tells p g xs → g x ≡ Some d → g z ≡ None → z ≢ x
    → Tells p (λ k. cond (k == z) (Some d) (cond (k == x) None (g k))) (cond (p d) (moved_local x z xs) xs)
tells_moved p g d xs x z r is own free other k = by_tests (p d) (k == z) (k == x) refl refl refl
  where
    by_tests : (t u w : Bool) → p d ≡ t → (k == z) ≡ u → (k == x) ≡ w → Contains (cond t (moved_local x z xs) xs) k ↔ (passes p (cond u (Some d) (cond w None (g k))) ≡ true)
    by_tests true true w e f s = (λ h. e, λ h. (moved_has x z k xs r other).1 (inl (same_number k z f, (is x).1 (ap (passes p) own ∙ e))))
    by_tests true false true e f s = (λ h. elim ((moved_has x z k xs r other).0 h) [ inl i ↦ absurd (other_number k z f i.0) | inr i ↦ absurd (i.1 (same_number k x s)) ], λ h. clash h refl)
    by_tests true false false e f s = (
      λ h. elim ((moved_has x z k xs r other).0 h) [ inl i ↦ absurd (other_number k z f i.0) | inr i ↦ (is k).0 i.0 ],
      λ h. (moved_has x z k xs r other).1 (inr ((is k).1 h, other_number k x s)),
    )
    by_tests false true w e f s = (λ h. absurd (none_at p g xs z k is free f h), λ h. clash h e)
    by_tests false false true e f s = (λ h. absurd (fails_at p g d xs x k is own e s h), λ h. clash h refl)
    by_tests false false false e f s = is k

-- ---- a new document at a free place

has_set : (q : List ℕ) (d : Contents) (n : ℕ) (rows : Rows) → bytes_eq d.id q ≡ false → has_row q rows ≡ false → has_row q (set_at n (Some d) rows) ≡ false
has_set q d n [] w h = ap (λ t. t || false) w
has_set q d zero (r ∷ rows) w h = by_test (is_of q r) h
  where
    by_test : (t : Bool) → (t || has_row q rows) ≡ false → (bytes_eq d.id q || has_row q rows) ≡ false
    by_test true k = clash refl k
    by_test false k = ap₂ (λ a b. a || b) w k
has_set q d (suc n) (r ∷ rows) w h = by_test (is_of q r) h (has_set q d n rows w)
  where
    by_test : (t : Bool) → (t || has_row q rows) ≡ false → (has_row q rows ≡ false → has_row q (set_at n (Some d) rows) ≡ false) → (t || has_row q (set_at n (Some d) rows)) ≡ false
    by_test true k ih = clash refl k
    by_test false k ih = ih k

pub distinct_set : (d : Contents) (n : ℕ) (rows : Rows) → has_row d.id rows ≡ false → row_at rows n ≡ None → AreDistinct rows → AreDistinct (set_at n (Some d) rows)
distinct_set d n [] new free h = (refl, tt)
distinct_set d zero (None ∷ rows) new free h = (new, h)
distinct_set d zero (Some e ∷ rows) new free h = absurd (none_some e (sym free))
distinct_set d (suc n) (None ∷ rows) new free h = distinct_set d n rows new free h
distinct_set d (suc n) (Some e ∷ rows) new free h = by_test (bytes_eq e.id d.id) refl new (λ k. distinct_set d n rows k free h.1)
  where
    turned : bytes_eq e.id d.id ≡ false → (t : Bool) → bytes_eq d.id e.id ≡ t → t ≡ false
    turned f true s = clash (own_id d.id) (ap (λ x. bytes_eq x d.id) (same_id d.id e.id s) ∙ f)
    turned f false s = refl

    by_test : (t : Bool) → bytes_eq e.id d.id ≡ t → (t || has_row d.id rows) ≡ false → (has_row d.id rows ≡ false → AreDistinct (set_at n (Some d) rows)) → AreDistinct (Some e ∷ set_at n (Some d) rows)
    by_test true s k ih = clash refl k
    by_test false s k ih = (has_set e.id d n rows (turned s (bytes_eq d.id e.id) refl) h.0, ih k)

-- a free place behind the last
has_more : (q : List ℕ) (n : ℕ) (rows : Rows) → length rows ≤ n → has_row q rows ≡ false → has_row q (set_at n None rows) ≡ false
has_more q n [] l h = refl
has_more q zero (r ∷ rows) l h = absurd (omega (arith, l))
has_more q (suc n) (r ∷ rows) l h = by_test (is_of q r) h (has_more q n rows (omega (arith, l)))
  where
    by_test : (t : Bool) → (t || has_row q rows) ≡ false → (has_row q rows ≡ false → has_row q (set_at n None rows) ≡ false) → (t || has_row q (set_at n None rows)) ≡ false
    by_test true k ih = clash refl k
    by_test false k ih = ih k

pub distinct_more : (n : ℕ) (rows : Rows) → AreDistinct rows → length rows ≤ n → AreDistinct (set_at n None rows)
distinct_more n [] h l = tt
distinct_more zero (r ∷ rows) h l = absurd (omega (arith, l))
distinct_more (suc n) (None ∷ rows) h l = distinct_more n rows h (omega (arith, l))
distinct_more (suc n) (Some e ∷ rows) h l = (has_more e.id n rows (omega (arith, l)) h.0, distinct_more n rows h.1 (omega (arith, l)))

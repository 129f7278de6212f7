-- Lists of numbers, item by item.
use Rattle.std.proofs.Common.{◌≡◌, ℤ, ◌&&◌, ◌||◌, Bool, true, false, cond, not, List, [], ◌∷◌, ◌++◌, refl, sym, ap, ap₂, ◌∙◌}
use Rattle.std.specs.List.{list_any}
use Rattle.std.specs.Ordering.{int_eq}
use Rattle.std.proofs.lemmas.Cmp.{int_eq_equiv}
use Rattle.std.proofs.lemmas.Bool.Decides.{Decides-int_eq}
use Rattle.attribute_columns.specs.Columns.{has_number}

or_with : (a b c : Bool) → (a || (b || c)) ≡ ((a || b) || c)
or_with true b c = refl
or_with false b c = refl

or_turned : (a : Bool) → (a || false) ≡ a
or_turned true = refl
or_turned false = refl

pub any_push : {X : Type 0} (p : X → Bool) (xs : List X) (x : X) → list_any p (xs ++ x ∷ []) ≡ (list_any p xs || p x)
any_push p [] x = or_turned (p x)
any_push p (y ∷ xs) x = ap (λ b. p y || b) (any_push p xs x) ∙ or_with (p y) (list_any p xs) (p x)

pub turned : (z q : ℤ) → int_eq z q ≡ int_eq q z
turned z q = int_eq_equiv.symm z q

-- a number more in a set
pub set_more : (z q : ℤ) (old new before : Bool) → new ≡ cond (int_eq z q) true old → old ≡ before → new ≡ (before || int_eq q z)
set_more z q old new before e f = e ∙ ap₂ (λ t o. cond t true o) (turned z q) f ∙ by_test (int_eq q z)
  where
    by_test : (t : Bool) → cond t true before ≡ (before || t)
    by_test true = by_before before
      where
        by_before : (b : Bool) → true ≡ (b || true)
        by_before true = refl
        by_before false = refl
    by_test false = sym (or_turned before)

same_has : (q z : ℤ) (others : List ℤ) → int_eq q z ≡ true → has_number z others ≡ has_number q others
same_has q z others e = ap (λ w. has_number w others) (sym ((Decides-int_eq q z).0 e))

-- a number that others lack, and one that they have
pub lack_more : (q z : ℤ) (list others : List ℤ) (before : Bool) → has_number z others ≡ false → has_number q list ≡ (before && not (has_number q others))
    → has_number q (list ++ z ∷ []) ≡ ((before || int_eq q z) && not (has_number q others))
lack_more q z list others before missing e = any_push (int_eq q) list z ∙ ap (λ b. b || int_eq q z) e ∙ by_test before (int_eq q z) refl
  where
    by_test : (b t : Bool) → int_eq q z ≡ t → ((b && not (has_number q others)) || t) ≡ ((b || t) && not (has_number q others))
    by_test true true i = ap (λ h. (not h || true)) (h i) ∙ sym (ap not (h i))
      where
        h : int_eq q z ≡ true → has_number q others ≡ false
        h i = sym (same_has q z others i) ∙ missing
    by_test true false i = or_turned _
    by_test false true i = sym (ap not (sym (same_has q z others i) ∙ missing))
    by_test false false i = refl

pub lack_same : (q z : ℤ) (list others : List ℤ) (before : Bool) → has_number z others ≡ true → has_number q list ≡ (before && not (has_number q others))
    → has_number q list ≡ ((before || int_eq q z) && not (has_number q others))
lack_same q z list others before there e = e ∙ by_test before (int_eq q z) refl
  where
    by_test : (b t : Bool) → int_eq q z ≡ t → (b && not (has_number q others)) ≡ ((b || t) && not (has_number q others))
    by_test true t i = refl
    by_test false true i = sym (ap not (sym (same_has q z others i) ∙ there))
    by_test false false i = refl

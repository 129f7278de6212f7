use Rattle.std.proofs.Common.{◌≡◌, ◌+◌, ◌<◌, ◌≤◌, ℕ, Bool, List, length, Some, ap, sym, ◌∙◌, ◌⊎◌, inl, inr, subst, slice_get, slice_index_or, arith}
use Rattle.std.proofs.lemmas.Option.{get_or_from_slice_get, slice_get_within}
use Rattle.std.specs.Prelude.{true, false}

module _ {A : Type 0} (P : A → Bool → Type 0) (xs : List A) where
  -- each of so many is done
  abbrev pub AreDone : ℕ → Type 0
  AreDone many = (at : ℕ) (x : A) → at < many → slice_get xs at ≡ Some x → P x true

  -- what was read at the place is the one that stands there
  pub read_is : (ys : List A) (place : ℕ) (x y : A) (done : Bool) → ys ≡ xs → slice_get xs place ≡ Some x → y ≡ slice_index_or ys place y → P y done → P x done
  read_is ys place x y done same at read p =
      subst (λ z. P z done) (read ∙ ap (λ zs. slice_index_or zs place y) same ∙ get_or_from_slice_get xs place x y at) p

  pub done_more : (ys : List A) (place : ℕ) (y : A) → ys ≡ xs → y ≡ slice_index_or ys place y → P y true → AreDone place → AreDone (place + 1)
  done_more ys place y same read p all at x below h = by_less at x h (search (arith))
    where
      by_less : (at : ℕ) (x : A) → slice_get xs at ≡ Some x → (at < place) ⊎ (at ≡ place) → P x true
      by_less at x h (inl less) = all at x less h
      by_less at x h (inr same_place) = read_is ys place x y true same (ap (slice_get xs) (sym same_place) ∙ h) read p

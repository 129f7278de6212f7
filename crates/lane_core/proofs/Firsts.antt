-- The first of a list of which something holds.
use Rattle.std.proofs.Common.{◌≡◌, ◌≤◌, ◌<◌, ◌+◌, ℕ, List, length, Some, slice_get, subst, inl, inr, arith}
use Rattle.std.proofs.lemmas.Bool.{cases_eq}
use Rattle.lane_core.proofs.Places.{get-one, get-within}

module _ {A : Type 0} (P : A → Type 0) (xs : List A) where
  -- it holds of none before the place
  abbrev pub NoneBefore : ℕ → Type 0
  NoneBefore n = (k : ℕ) (x : A) → k < n → slice_get xs k ≡ Some x → P x → ⊥

  pub none-yet : NoneBefore 0
  none-yet k x less = absurd (omega (arith, less))

  pub none-more : (n : ℕ) (x : A) → slice_get xs n ≡ Some x → (P x → ⊥) → NoneBefore n → NoneBefore (n + 1)
  none-more n x found off none k y less got is = elim (cases_eq k n) [
    | inl same ↦ off (subst P (get-one xs n y x (subst (λ (i : ℕ). slice_get xs i ≡ Some y) same got) found) is)
    | inr apart ↦ none k y (omega (arith, less, apart)) got is
  ]

  pub none-at-all : (n : ℕ) → length xs ≤ n → NoneBefore n → (k : ℕ) (x : A) → slice_get xs k ≡ Some x → P x → ⊥
  none-at-all n all none k x got = let w = get-within xs k x got in none k x (omega (arith, w, all)) got

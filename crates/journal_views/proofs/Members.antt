-- Members of lists.
use Rattle.std.proofs.Common.{◌≡◌, ◌⊎◌, inl, inr, ℕ, zero, suc, ◌<◌, List, [], ◌∷◌, length, Contains, slice_index_or, arith}

abbrev pub In : {A : Type 0} → A → List A → Type 0
In x [] = ⊥
In x (y ∷ ys) = (y ≡ x) ⊎ In x ys

pub in-contains : {A : Type 0} (xs : List A) (x : A) → Contains xs x → In x xs
in-contains [] x c = let w = c.1 in absurd (omega arith)
in-contains (y ∷ ys) x c = by_place c.0 c.1 c.2 (λ d. in-contains ys x d)
  where
    by_place : (k : ℕ) → k < length (y ∷ ys) → slice_index_or (y ∷ ys) k x ≡ x → (Contains ys x → In x ys) → (y ≡ x) ⊎ In x ys
    by_place zero lt e ih = inl e
    by_place (suc k) lt e ih = inr (ih (k, omega (arith, lt), e))

pub contains-in : {A : Type 0} (xs : List A) (x : A) → In x xs → Contains xs x
contains-in [] x h = absurd h
contains-in (y ∷ ys) x (inl e) = (zero, omega arith, e)
contains-in (y ∷ ys) x (inr h) = let c = contains-in ys x h in let w = c.1 in (suc c.0, omega (arith, w), c.2)

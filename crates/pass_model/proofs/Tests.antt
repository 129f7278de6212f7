-- Tests and lists.
use Rattle.std.proofs.Common.{◌≡◌, ◌||◌, not, ℕ, Bool, true, false, cond, List, [], ◌∷◌, ◌++◌, filter, refl, ap₂, arith, nat_le, ◌⊎◌, inl, inr}
use Rattle.std.specs.List.{list_any}
use Rattle.std.proofs.lemmas.Bool.Decides.{nat_tests}
use Rattle.proof_basics.proofs.Tests.{or_false, or_true, or_left, or_right, is_false, clash}

pub not_true : (a : Bool) → not a ≡ true → a ≡ false
not_true true h = cc
not_true false h = refl

pub tell : (a : Bool) → (a ≡ true) ⊎ (a ≡ false)
tell true = inl refl
tell false = inr refl

pub le-refl : (n : ℕ) → nat_le n n ≡ true
le-refl n = grind (arith, nat_tests)

pub any-left : {X : Type 0} (p : X → Bool) (xs ys : List X) → list_any p xs ≡ true → list_any p (xs ++ ys) ≡ true
any-left p [] ys h = cc
any-left p (x ∷ xs) ys h = elim (or_true (p x) (list_any p xs) h) [ inl here ↦ or_left (p x) (list_any p (xs ++ ys)) here | inr later ↦ or_right (p x) (list_any p (xs ++ ys)) (any-left p xs ys later) ]

pub any-right : {X : Type 0} (p : X → Bool) (xs ys : List X) → list_any p ys ≡ true → list_any p (xs ++ ys) ≡ true
any-right p [] ys h = h
any-right p (x ∷ xs) ys h = or_right (p x) (list_any p (xs ++ ys)) (any-right p xs ys h)

pub none-append : {X : Type 0} (p : X → Bool) (xs ys : List X) → list_any p xs ≡ false → list_any p ys ≡ false → list_any p (xs ++ ys) ≡ false
none-append p [] ys h g = g
none-append p (x ∷ xs) ys h g = let parts = or_false (p x) (list_any p xs) h in ap₂ (λ a b. a || b) parts.0 (none-append p xs ys parts.1 g)

pub none-left : {X : Type 0} (p : X → Bool) (xs ys : List X) → list_any p (xs ++ ys) ≡ false → list_any p xs ≡ false
none-left p xs ys h = is_false (list_any p xs) (λ t. clash (any-left p xs ys t) h)

pub none-right : {X : Type 0} (p : X → Bool) (xs ys : List X) → list_any p (xs ++ ys) ≡ false → list_any p ys ≡ false
none-right p xs ys h = is_false (list_any p ys) (λ t. clash (any-right p xs ys t) h)

-- elements that a filter keeps
pub any-filter : {X : Type 0} (p keep : X → Bool) (xs : List X) → ((x : X) → p x ≡ true → keep x ≡ true) → list_any p xs ≡ true → list_any p (filter keep xs) ≡ true
any-filter p keep [] f h = cc
any-filter p keep (x ∷ xs) f h = elim (or_true (p x) (list_any p xs) h) [
  | inl here ↦ (let k = f x here in rw k (or_left (p x) (list_any p (filter keep xs)) here))
  | inr later ↦ by_test (keep x) (any-filter p keep xs f later)
]
  where
    by_test : (t : Bool) → list_any p (filter keep xs) ≡ true → list_any p (cond t (x ∷ filter keep xs) (filter keep xs)) ≡ true
    by_test true ih = or_right (p x) (list_any p (filter keep xs)) ih
    by_test false ih = ih

pub none-filter : {X : Type 0} (p keep : X → Bool) (xs : List X) → list_any p xs ≡ false → list_any p (filter keep xs) ≡ false
none-filter p keep [] h = refl
none-filter p keep (x ∷ xs) h = by_test (keep x) (or_false (p x) (list_any p xs) h).0 (none-filter p keep xs (or_false (p x) (list_any p xs) h).1)
  where
    by_test : (t : Bool) → p x ≡ false → list_any p (filter keep xs) ≡ false → list_any p (cond t (x ∷ filter keep xs) (filter keep xs)) ≡ false
    by_test true here ih = ap₂ (λ a b. a || b) here ih
    by_test false here ih = ih

pub any-append : {X : Type 0} (p : X → Bool) (xs ys : List X) → list_any p (xs ++ ys) ≡ true → (list_any p xs ≡ true) ⊎ (list_any p ys ≡ true)
any-append p [] ys h = inr h
any-append p (x ∷ xs) ys h = elim (or_true (p x) (list_any p (xs ++ ys)) h) [
  | inl here ↦ inl (or_left (p x) (list_any p xs) here)
  | inr later ↦ elim (any-append p xs ys later) [ inl one ↦ inl (or_right (p x) (list_any p xs) one) | inr two ↦ inr two ]
]

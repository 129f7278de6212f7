-- Numbers, and the sum of their powers of two.
use Rattle.std.specs.Prelude.{◌≡◌, ℕ, ◌+◌, ◌^◌, List, [], ◌∷◌, Some, slice_get}

-- 2 to each number, added up
abbrev pub powers : List ℕ → ℕ
powers [] = 0
powers (n ∷ ns) = 2 ^ n + powers ns

-- the number stands somewhere in the list
abbrev pub Stands : ℕ → List ℕ → Type 0
Stands k ns = (place : ℕ) × (slice_get ns place ≡ Some k)

-- the number stands at one place of the list, and at no other
pub record StandsOnce (k : ℕ) (ns : List ℕ) : Type 0 where
  pub place : ℕ
  pub stands : slice_get ns place ≡ Some k
  pub once : (other : ℕ) → slice_get ns other ≡ Some k → other ≡ place

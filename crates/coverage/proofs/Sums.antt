-- Sums over the numbers below a limit.
use Rattle.std.proofs.Common.{◌≡◌, ℕ, zero, suc, ◌+◌, ◌*◌, ◌%◌, ◌<◌, ◌≤◌, Bool, true, false, cond, eqb, ltb, refl, ap, ◌∙◌, arith, add-zero}
use Rattle.std.proofs.lemmas.Bool.Decides.{nat_tests}
use Rattle.std.proofs.lemmas.Nat.{mod-mul-add}

unfoldable pub sum_below : (ℕ → ℕ) → ℕ → ℕ
sum_below f zero = 0
sum_below f (suc k) = f k + sum_below f k

pub sum_below-zero : (k : ℕ) → sum_below (λ i. 0) k ≡ 0
unfolding sum_below
sum_below-zero zero = refl
sum_below-zero (suc k) = omega (arith, sum_below-zero k)

pub sum_below-add : (f g : ℕ → ℕ) (k : ℕ) → sum_below (λ i. f i + g i) k ≡ sum_below f k + sum_below g k
unfolding sum_below
sum_below-add f g zero = refl
sum_below-add f g (suc k) = omega (arith, sum_below-add f g k)

-- at most one each
pub at_most : (f : ℕ → ℕ) (k : ℕ) → ((i : ℕ) → i < k → f i ≤ 1) → sum_below f k ≤ k
unfolding sum_below
at_most f zero h = omega arith
at_most f (suc k) h = omega (arith, h k (omega arith), at_most f k (λ i l. h i (omega arith)))

-- and where the sum is the limit, one each
pub one_each : (f : ℕ → ℕ) (k : ℕ) → ((i : ℕ) → i < k → f i ≤ 1) → sum_below f k ≡ k → (i : ℕ) → i < k → f i ≡ 1
unfolding sum_below
one_each f zero h e i l = absurd (omega arith)
one_each f (suc k) h e i l = by_case (λ low below less. one_each f k low below i less) (eqb i k) refl
  where
    low : (j : ℕ) → j < k → f j ≤ 1
    low j m = h j (omega arith)

    rest : sum_below f k ≤ k
    rest = at_most f k low

    here : f k ≤ 1
    here = h k (omega arith)

    below : sum_below f k ≡ k
    below = omega (arith, rest, here)

    by_case : (((j : ℕ) → j < k → f j ≤ 1) → sum_below f k ≡ k → i < k → f i ≡ 1) → (t : Bool) → eqb i k ≡ t → f i ≡ 1
    by_case ih true is = let same : i ≡ k = grind (arith, nat_tests) in let one : f k ≡ 1 = omega (arith, rest, here) in ap f same ∙ one
    by_case ih false is = let less : i < k = grind (arith, nat_tests) in ih low below less

-- ---- the numbers with a remainder

abbrev pub with_rest : ℕ → ℕ → ℕ → ℕ
with_rest m low i = cond (eqb (i % m) low) 1 0

-- below a multiple and some more
block : (m low q j : ℕ) → j ≤ m → sum_below (with_rest m low) (q * m + j) ≡ sum_below (with_rest m low) (q * m) + cond (ltb low j) 1 0
unfolding sum_below
block m low q zero h = grind (arith, nat_tests, add-zero)
block m low q (suc j) h =
    let split : q * m + suc j ≡ suc (q * m + j) = omega arith in
    let rest : (q * m + j) % m ≡ j = mod-mul-add q m j (omega arith) in
    let ih : sum_below (with_rest m low) (q * m + j) ≡ sum_below (with_rest m low) (q * m) + cond (ltb low j) 1 0 = block m low q j (omega arith) in
    let step : sum_below (with_rest m low) (suc (q * m + j)) ≡ cond (eqb j low) 1 0 + (sum_below (with_rest m low) (q * m) + cond (ltb low j) 1 0) = rw (rest, ih) refl in
    let one : cond (eqb j low) 1 0 + (sum_below (with_rest m low) (q * m) + cond (ltb low j) 1 0) ≡ sum_below (with_rest m low) (q * m) + cond (ltb low (suc j)) 1 0 = last (sum_below (with_rest m low) (q * m)) in
    ap (sum_below (with_rest m low)) split ∙ (step ∙ one)
  where
    last : (a : ℕ) → cond (eqb j low) 1 0 + (a + cond (ltb low j) 1 0) ≡ a + cond (ltb low (suc j)) 1 0
    last a = grind (arith, nat_tests)

-- one in each block
pub in_blocks : (m low q : ℕ) → low < m → sum_below (with_rest m low) (q * m) ≡ q
unfolding sum_below
in_blocks m low zero h = let none : ◌≡◌ {A = ℕ} (0 * m) 0 = omega arith in ap (sum_below (with_rest m low)) none
in_blocks m low (suc q) h =
    let more : suc q * m ≡ q * m + m = omega arith in
    let all : ◌≡◌ {A = ℕ} (cond (ltb low m) 1 0) 1 = grind (arith, nat_tests) in
    ap (sum_below (with_rest m low)) more ∙ (block m low q m (omega arith) ∙ omega (arith, all, in_blocks m low q h))

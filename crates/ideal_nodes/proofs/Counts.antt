-- How many numbers below an end pass a test.
use Rattle.std.proofs.Common.{◌≡◌, ◌||◌, ℕ, zero, suc, ◌+◌, ◌<◌, ◌≤◌, Bool, true, false, cond, nat_eq, inl, inr, refl, sym, ap, ap₂, ◌∙◌, arith}
use Rattle.std.proofs.lemmas.Bool.{cases_eq, false≢true}
use Rattle.std.proofs.lemmas.Bool.Decides.{nat_tests}
use Rattle.cluster_states.specs.Publishing.{how_many}

abbrev pub one_if : Bool → ℕ
one_if t = cond t 1 0

less_one : (t u : Bool) → (t ≡ true → u ≡ true) → cond t 1 0 ≤ cond u 1 0
less_one false u h = omega arith
less_one true false h = absurd (false≢true (h refl))
less_one true true h = omega arith

pub how_many_less : (p q : ℕ → Bool) (k : ℕ) → ((i : ℕ) → i < k → p i ≡ true → q i ≡ true) → how_many p k ≤ how_many q k
how_many_less p q zero h = omega arith
how_many_less p q (suc k) h =
    let rest = how_many_less p q k (λ i lt. h i (omega (arith, lt))) in
    let last = less_one (p k) (q k) (h k (omega arith)) in
    omega (arith, rest, last)

-- one passes only the second test
pub how_many_more : (p q : ℕ → Bool) (k j : ℕ) → ((i : ℕ) → i < k → p i ≡ true → q i ≡ true) → j < k → p j ≡ false → q j ≡ true → how_many p k < how_many q k
how_many_more p q zero j h lt out into = absurd (omega arith)
how_many_more p q (suc k) j h lt out into = elim (cases_eq j k) [
  | inl same ↦
      let rest = how_many_less p q k (λ i below. h i (omega (arith, below))) in
      let here = ap one_if (ap p (sym same) ∙ out) in
      let there = ap one_if (ap q (sym same) ∙ into) in
      omega (arith, rest, here, there)
  | inr other ↦
      let rest = how_many_more p q k j (λ i below. h i (omega (arith, below))) (omega (arith, lt, other)) out into in
      let last = less_one (p k) (q k) (h k (omega arith)) in
      omega (arith, rest, last)
]

one_or : (t u : Bool) → cond (t || u) 1 0 ≤ cond t 1 0 + cond u 1 0
one_or true u = omega arith
one_or false u = omega arith

pub how_many_or : (p q : ℕ → Bool) (k : ℕ) → how_many (λ i. p i || q i) k ≤ how_many p k + how_many q k
how_many_or p q zero = omega arith
how_many_or p q (suc k) = omega (arith, how_many_or p q k, one_or (p k) (q k))

pub how_many_none : (p : ℕ → Bool) (k : ℕ) → ((i : ℕ) → i < k → p i ≡ false) → how_many p k ≡ 0
how_many_none p zero h = refl
how_many_none p (suc k) h = omega (arith, how_many_none p k (λ i lt. h i (omega (arith, lt))), ap one_if (h k (omega arith)))

pub how_many_one : (c k : ℕ) → how_many (λ i. nat_eq c i) k ≤ 1
how_many_one c zero = omega arith
how_many_one c (suc k) = elim (cases_eq c k) [
  | inl same ↦
      let none = how_many_none (λ i. nat_eq c i) k (λ i lt. off i lt same) in
      let last = one (nat_eq c k) in
      omega (arith, none, last)
  | inr other ↦
      let not : nat_eq c k ≡ false = grind (arith, nat_tests) in
      omega (arith, how_many_one c k, ap one_if not)
]
  where
    off : (i : ℕ) → i < k → c ≡ k → nat_eq c i ≡ false
    off i lt same = grind (arith, nat_tests)

    one : (t : Bool) → cond t 1 0 ≤ 1
    one true = omega arith
    one false = omega arith

-- a number that passes
pub record Passes (p : ℕ → Bool) (k : ℕ) : Type 0 where
  pub number : ℕ
  pub below : number < k
  pub passes : p number ≡ true

pub how_many_some : (p : ℕ → Bool) (k : ℕ) → 0 < how_many p k → Passes p k
how_many_some p zero h = absurd (omega arith)
how_many_some p (suc k) h = by_test (p k) refl (how_many_some p k)
  where
    by_test : (t : Bool) → p k ≡ t → (0 < how_many p k → Passes p k) → Passes p (suc k)
    by_test true e further = record { number = k; below = omega arith; passes = e }
    by_test false e further =
        let rest = further (omega (arith, h, ap one_if e)) in
        record { number = rest.number; below = omega (arith, rest.below); passes = rest.passes }

pub some_how_many : (p : ℕ → Bool) (k i : ℕ) → i < k → p i ≡ true → 0 < how_many p k
some_how_many p k i lt into = omega (arith, how_many_more (λ j. false) p k i (λ j below never. absurd (false≢true never)) lt refl into)

pub how_many_same : (p q : ℕ → Bool) (k : ℕ) → ((i : ℕ) → p i ≡ q i) → how_many p k ≡ how_many q k
how_many_same p q zero h = refl
how_many_same p q (suc k) h = ap₂ (λ n (t : Bool). n + cond t 1 0) (how_many_same p q k h) (h k)

-- none passes from an end on
pub how_many_past : (p : ℕ → Bool) (k m : ℕ) → k ≤ m → ((i : ℕ) → k ≤ i → p i ≡ false) → how_many p m ≡ how_many p k
how_many_past p k zero le none = let e : 0 ≡ k = omega (arith, le) in ap (how_many p) e
how_many_past p k (suc m) le none = elim (cases_eq k (suc m)) [
  | inl same ↦ ap (how_many p) (sym same)
  | inr other ↦
      let rest = how_many_past p k m (omega (arith, le, other)) none in
      let last = ap one_if (none m (omega (arith, le, other))) in
      omega (arith, rest, last)
]

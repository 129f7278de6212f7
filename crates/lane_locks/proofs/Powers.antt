-- Numbers whose powers of two add up to one less than a power of two.
use Rattle.std.proofs.Common.{◌≡◌, ◌≢◌, ◌⊎◌, inl, inr, ℕ, zero, suc, ◌+◌, ◌-◌, ◌*◌, ◌^◌, ◌<◌, ◌≤◌, List, [], ◌∷◌, ◌++◌, length, replicate, Some, refl, sym, ap, ◌∙◌, arith, slice_get}
use Rattle.std.proofs.Math.Nat.{pow-succ'}
use Rattle.proof_basics.proofs.Options.{none_some, some_same}
use Rattle.lane_locks.specs.Powers.{powers, StandsOnce}

-- ---- the odd part and the even one

-- how many are 0
zeros : List ℕ → ℕ
zeros [] = 0
zeros (zero ∷ ns) = suc (zeros ns)
zeros (suc n ∷ ns) = zeros ns

-- the others, each one less
downs : List ℕ → List ℕ
downs [] = []
downs (zero ∷ ns) = downs ns
downs (suc n ∷ ns) = n ∷ downs ns

split-powers : (ns : List ℕ) → powers ns ≡ zeros ns + 2 * powers (downs ns)
unfolding zeros downs
split-powers [] = refl
split-powers (zero ∷ ns) = let h = split-powers ns in omega arith
split-powers (suc n ∷ ns) = let h = split-powers ns in omega (arith, pow-succ' 2 n)

split-length : (ns : List ℕ) → length ns ≡ zeros ns + length (downs ns)
unfolding zeros downs
split-length [] = refl
split-length (zero ∷ ns) = let h = split-length ns in omega arith
split-length (suc n ∷ ns) = let h = split-length ns in omega arith

more-powers : (ns : List ℕ) (m : ℕ) → powers (ns ++ replicate m 0) ≡ powers ns + m
more-powers [] zero = refl
more-powers [] (suc m) = let h = more-powers [] m in omega arith
more-powers (n ∷ ns) m = let h = more-powers ns m in omega arith

more-length : (ns : List ℕ) (m : ℕ) → length (ns ++ replicate m 0) ≡ length ns + m
more-length [] zero = refl
more-length [] (suc m) = let h = more-length [] m in omega arith
more-length (n ∷ ns) m = let h = more-length ns m in omega arith

-- ---- how often each is there

-- 1 where the numbers are the same, and else 0
same : ℕ → ℕ → ℕ
same zero zero = 1
same zero (suc b) = 0
same (suc a) zero = 0
same (suc a) (suc b) = same a b

times : ℕ → List ℕ → ℕ
times k [] = 0
times k (n ∷ ns) = same k n + times k ns

times-zero : (ns : List ℕ) → times 0 ns ≡ zeros ns
unfolding zeros times same
times-zero [] = refl
times-zero (zero ∷ ns) = let h = times-zero ns in omega arith
times-zero (suc n ∷ ns) = let h = times-zero ns in omega arith

times-suc : (k : ℕ) (ns : List ℕ) → times (suc k) ns ≡ times k (downs ns)
unfolding downs times same
times-suc k [] = refl
times-suc k (zero ∷ ns) = let h = times-suc k ns in omega arith
times-suc k (suc n ∷ ns) = let h = times-suc k ns in omega arith

-- ---- it takes n of them

enough : (n : ℕ) (ns : List ℕ) → powers ns + 1 ≡ 2 ^ n → n ≤ length ns
enough zero ns h = omega arith
enough (suc n) ns h =
    let P = powers (downs ns) in
    let m = 2 ^ n - P - 1 in
    let s = split-powers ns in
    let l = split-length ns in
    let e = pow-succ' 2 n in
    let rest : n ≤ length (downs ns ++ replicate m 0) = enough n (downs ns ++ replicate m 0) (omega (arith, more-powers (downs ns) m)) in
    omega (arith, more-length (downs ns) m)

-- one is 0, and the others are one above such numbers
record Halves (n : ℕ) (ns : List ℕ) : Type 0 where
  pub one : zeros ns ≡ 1
  pub count : length (downs ns) ≡ n
  pub sum : powers (downs ns) + 1 ≡ 2 ^ n

halves : (n : ℕ) (ns : List ℕ) → length ns ≡ suc n → powers ns + 1 ≡ 2 ^ suc n → Halves n ns
halves n ns len h =
    let P = powers (downs ns) in
    let m = 2 ^ n - P - 1 in
    let s = split-powers ns in
    let l = split-length ns in
    let e = pow-succ' 2 n in
    let rest : n ≤ length (downs ns ++ replicate m 0) = enough n (downs ns ++ replicate m 0) (omega (arith, more-powers (downs ns) m)) in
    let more = more-length (downs ns) m in
    record { one = omega arith; count = omega arith; sum = omega arith }

each-once : (n : ℕ) (ns : List ℕ) → length ns ≡ n → powers ns + 1 ≡ 2 ^ n → (k : ℕ) → k < n → times k ns ≡ 1
each-once zero ns len h k less = absurd (omega arith)
each-once (suc n) ns len h zero less = times-zero ns ∙ (halves n ns len h).one
each-once (suc n) ns len h (suc k) less =
    let s = halves n ns len h in
    times-suc k ns ∙ each-once n (downs ns) s.count s.sum k (omega arith)

-- ---- and where

same-or : (k n : ℕ) → ((k ≡ n) × (same k n ≡ 1)) ⊎ ((k ≢ n) × (same k n ≡ 0))
unfolding same
same-or zero zero = inl (refl, refl)
same-or zero (suc n) = inr ((λ e. (let f : zero ≡ suc n = e in cc)), refl)
same-or (suc k) zero = inr ((λ e. (let f : suc k ≡ zero = e in cc)), refl)
same-or (suc k) (suc n) = elim (same-or k n) [
  | inl is ↦ inl (ap suc is.0, is.1)
  | inr off ↦ inr ((λ e. off.0 (let f : suc k ≡ suc n = e in cc)), off.1)
]

nowhere : (k : ℕ) (ns : List ℕ) → times k ns ≡ 0 → (place : ℕ) → slice_get ns place ≡ Some k → ⊥
unfolding times
nowhere k [] none place at = none_some k at
nowhere k (n ∷ ns) none zero at = elim (same-or k n) [
  | inl is ↦ (let one = is.1 in omega arith)
  | inr off ↦ off.0 (sym (some_same n k at))
]
nowhere k (n ∷ ns) none (suc place) at = nowhere k ns (omega (arith, none)) place at

stands : (k : ℕ) (ns : List ℕ) → times k ns ≡ 1 → StandsOnce k ns
unfolding times
stands k [] one = absurd (omega (arith, one))
stands k (n ∷ ns) one = elim (same-or k n) [
  | inl is ↦ (let here = is.1 in record {
    place = 0;
    stands = ap (λ (i : ℕ). Some i) (sym is.0);
    once = first (omega (arith, one, here));
  })
  | inr off ↦ (let not = off.1 in let later = stands k ns (omega (arith, one, not)) in record {
    place = suc later.place;
    stands = later.stands;
    once = rest off.0 later;
  })
]
  where
    first : times k ns ≡ 0 → (other : ℕ) → slice_get (n ∷ ns) other ≡ Some k → other ≡ 0
    first none zero at = refl
    first none (suc other) at = absurd (nowhere k ns none other at)

    rest : k ≢ n → (later : StandsOnce k ns) → (other : ℕ) → slice_get (n ∷ ns) other ≡ Some k → other ≡ suc later.place
    rest off later zero at = absurd (off (sym (some_same n k at)))
    rest off later (suc other) at = ap suc (later.once other at)

pub stands-once : (n : ℕ) (ns : List ℕ) → length ns ≡ n → powers ns + 1 ≡ 2 ^ n → (k : ℕ) → k < n → StandsOnce k ns
stands-once n ns len h k less = stands k ns (each-once n ns len h k less)

pub powers-append : (ns ms : List ℕ) → powers (ns ++ ms) ≡ powers ns + powers ms
powers-append [] ms = omega arith
powers-append (n ∷ ns) ms = let h = powers-append ns ms in omega arith

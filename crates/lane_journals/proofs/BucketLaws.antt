-- Laws of buckets.
use Rattle.std.proofs.Common.{◌≡◌, ℕ, ◌+◌, ◌-◌, ◌*◌, ◌%◌, ◌^◌, ◌<◌, ◌≤◌, Bool, true, false, cond, refl, sym, ap, ◌∙◌, subst, arith, inl, inr, ◌⊎◌, eqb, leb, eq-eqb}
use Rattle.std.proofs.lemmas.Bool.{eqb-true, cases_lt}
use Rattle.std.proofs.lemmas.Bool.Decides.{nat_tests}
use Rattle.lane_journals.specs.Buckets.{Bucket, contains, same_bucket, covers, meets, first_child, second_child, across}
use Rattle.std.proofs.Math.Pow.{mod-mod-pow}
use Rattle.std.proofs.Common.{◌/◌, add_comm, mod-eq_of_lt, pow_pos, pow-suc, add-one}
use Rattle.std.proofs.lemmas.Nat.{mod-pow-add, mod_below, mod_low}

pub low_of_low : (key i j : ℕ) → i ≤ j → key % 2 ^ j % 2 ^ i ≡ key % 2 ^ i
low_of_low key i j h =
    let e : j ≡ (j - i) + i = omega arith in
    subst (λ m. key % 2 ^ m % 2 ^ i ≡ key % 2 ^ i) (sym e) (mod-mod-pow key (j - i) i)

covers-by : (a b : Bucket) (key : ℕ) → a.bits ≤ b.bits → contains a key ≡ true → contains b key ≡ true → contains a b.low ≡ true
unfolding contains
covers-by a b key le p q =
    let x : key % 2 ^ a.bits ≡ a.low = eqb-true _ _ p in
    let y : key % 2 ^ b.bits ≡ b.low = eqb-true _ _ q in
    let z = low_of_low key a.bits b.bits le in
    eq-eqb _ _ (ap (λ (i : ℕ). i % 2 ^ a.bits) (sym y) ∙ z ∙ x)

-- two buckets with a common key meet
pub meets-by : (a b : Bucket) (key : ℕ) → contains a key ≡ true → contains b key ≡ true → meets a b ≡ true
unfolding meets covers
meets-by a b key p q = elim (cases_lt b.bits a.bits) [
  | inl less ↦ (let le : b.bits ≤ a.bits = omega arith in let c = covers-by b a key le q p in rw (leb-true b.bits a.bits le, c) (at_last (cond (leb a.bits b.bits) (contains a b.low) false)))
  | inr more ↦ (let c = covers-by a b key more p q in rw (leb-true a.bits b.bits more, c) refl)
]
  where
    leb-true : (x y : ℕ) → x ≤ y → leb x y ≡ true
    leb-true x y h = grind (arith, nat_tests)

    at_last : (t : Bool) → cond t true true ≡ true
    at_last true = refl
    at_last false = refl

pub same_bucket-refl : (b : Bucket) → same_bucket b b ≡ true
unfolding same_bucket
same_bucket-refl b = rw (eq-eqb b.bits b.bits refl, eq-eqb b.low b.low refl) refl

pub same_bucket-true : (a b : Bucket) → same_bucket a b ≡ true → a ≡ b
unfolding same_bucket
same_bucket-true a b h = by_case (eqb a.bits b.bits) refl h
  where
    make : a.bits ≡ b.bits → a.low ≡ b.low → a ≡ b
    make p q = λ i. record { bits = p i; low = q i }

    by_case : (t : Bool) → eqb a.bits b.bits ≡ t → cond t (eqb a.low b.low) false ≡ true → a ≡ b
    by_case true e h = make (eqb-true _ _ e) (eqb-true _ _ h)
    by_case false e h = cc

double : (k : ℕ) → 2 ^ (k + 1) ≡ 2 ^ k + 2 ^ k
double k = rw add-one (rw (pow-suc 2 k) (omega arith))

bit_cases : (q : ℕ) → q < 2 → (q ≡ 0) ⊎ (q ≡ 1)
bit_cases q h = elim (cases_lt q 1) [ inl none ↦ inl (omega arith) | inr one ↦ inr (omega arith) ]

next_bit : (key k low : ℕ) → key % 2 ^ k ≡ low → (key % 2 ^ (k + 1) ≡ low) ⊎ (key % 2 ^ (k + 1) ≡ low + 2 ^ k)
next_bit key k low h =
    let q = key / 2 ^ k % 2 ^ 1 in
    let whole : key % 2 ^ (k + 1) ≡ q * 2 ^ k + key % 2 ^ k = ap (λ m. key % 2 ^ m) (add_comm k 1) ∙ mod-pow-add key 1 k in
    elim (bit_cases q (mod_below (key / 2 ^ k) 2 (omega arith))) [
      | inl none ↦ inl (whole ∙ ap (λ x. x * 2 ^ k + key % 2 ^ k) none ∙ (omega (arith, h)))
      | inr one ↦ inr (whole ∙ ap (λ x. x * 2 ^ k + key % 2 ^ k) one ∙ (omega (arith, h)))
    ]

-- each key of a bucket is in a child
pub child_of : (p : Bucket) (key : ℕ) → contains p key ≡ true → (contains (first_child p) key ≡ true) ⊎ (contains (second_child p) key ≡ true)
unfolding contains first_child second_child
child_of p key h = elim (next_bit key p.bits p.low (eqb-true _ _ h)) [ inl first ↦ inl (eq-eqb _ _ first) | inr second ↦ inr (eq-eqb _ _ second) ]

fewer : (key k : ℕ) → key % 2 ^ (k + 1) % 2 ^ k ≡ key % 2 ^ k
fewer key k = low_of_low key k (k + 1) (omega arith)

-- the first child's keys are in the parent
pub first_in : (p : Bucket) (key : ℕ) → p.low < 2 ^ p.bits → contains (first_child p) key ≡ true → contains p key ≡ true
unfolding contains first_child
first_in p key fits h = eq-eqb _ _ (sym (fewer key p.bits) ∙ ap (λ (x : ℕ). x % 2 ^ p.bits) (eqb-true _ _ h) ∙ mod-eq_of_lt fits)

pub second_in : (p : Bucket) (key : ℕ) → p.low < 2 ^ p.bits → contains (second_child p) key ≡ true → contains p key ≡ true
unfolding contains second_child
second_in p key fits h = eq-eqb _ _ (sym (fewer key p.bits) ∙ ap (λ (x : ℕ). x % 2 ^ p.bits) (eqb-true _ _ h) ∙ low_again)
  where
    low_again : (p.low + 2 ^ p.bits) % 2 ^ p.bits ≡ p.low
    low_again =
        let e : p.low + 2 ^ p.bits ≡ 1 * 2 ^ p.bits + p.low = omega arith in
        ap (λ (x : ℕ). x % 2 ^ p.bits) e ∙ mod_low 1 p.bits p.low fits

pub across-first : (p : Bucket) (key : ℕ) → p.low < 2 ^ p.bits → contains (first_child p) key ≡ true → contains (second_child p) (across p key) ≡ true
unfolding contains first_child second_child across
across-first p key fits h = rw h (eq-eqb _ _ (mod-eq_of_lt (let d = double p.bits in omega arith)))

-- no key is in both children
pub children_apart : (p : Bucket) (key : ℕ) → contains (first_child p) key ≡ true → contains (second_child p) key ≡ true → ⊥
unfolding contains first_child second_child
children_apart p key h g = let x = eqb-true _ _ h in let y = eqb-true _ _ g in omega (arith, pow_pos p.bits)

lows : (p : Bucket) → p.low < 2 ^ p.bits → contains (first_child p) p.low ≡ true
unfolding contains first_child
lows p fits = eq-eqb _ _ (mod-eq_of_lt (let d = double p.bits in omega arith))

pub across-second : (p : Bucket) (key : ℕ) → p.low < 2 ^ p.bits → contains (second_child p) key ≡ true → contains (first_child p) (across p key) ≡ true
unfolding across
across-second p key fits h = by_case (contains (first_child p) key) refl
  where
    low_in : contains (first_child p) p.low ≡ true
    low_in = lows p fits

    by_case : (t : Bool) → contains (first_child p) key ≡ t → contains (first_child p) (cond t (second_child p).low p.low) ≡ true
    by_case true e = absurd (children_apart p key e h)
    by_case false e = low_in

pub second_low : (p : Bucket) → p.low < 2 ^ p.bits → contains (second_child p) (second_child p).low ≡ true
unfolding contains second_child
second_low p fits = eq-eqb _ _ (mod-eq_of_lt (let d = double p.bits in omega arith))

pub fits-of : (b : Bucket) → b.low < 2 ^ b.bits → ((first_child b).low < 2 ^ (first_child b).bits) × ((second_child b).low < 2 ^ (second_child b).bits)
unfolding first_child second_child
fits-of b h = ((let d = double b.bits in omega arith), (let d = double b.bits in omega arith))

pub covers-of : (a b : Bucket) (key : ℕ) → a.bits ≤ b.bits → contains a key ≡ true → contains b key ≡ true → covers a b ≡ true
unfolding covers
covers-of a b key le p q = let c = covers-by a b key le p q in rw (leb-true a.bits b.bits le, c) refl
  where
    leb-true : (x y : ℕ) → x ≤ y → leb x y ≡ true
    leb-true x y h = grind (arith, nat_tests)

-- of two buckets with a common key one covers the other
pub one-covers : (a b : Bucket) (key : ℕ) → contains a key ≡ true → contains b key ≡ true → (covers a b ≡ true) ⊎ (covers b a ≡ true)
one-covers a b key p q = elim (cases_lt b.bits a.bits) [ inl less ↦ inr (covers-of b a key (omega arith) q p) | inr more ↦ inl (covers-of a b key more p q) ]

pub covers-contains : (a b : Bucket) (key : ℕ) → covers a b ≡ true → contains b key ≡ true → contains a key ≡ true
unfolding covers contains
covers-contains a b key c q = by_case (leb a.bits b.bits) refl c
  where
    by_case : (t : Bool) → leb a.bits b.bits ≡ t → cond t (eqb (b.low % 2 ^ a.bits) a.low) false ≡ true → eqb (key % 2 ^ a.bits) a.low ≡ true
    by_case true e h =
        let le : a.bits ≤ b.bits = grind (arith, nat_tests) in
        let y : key % 2 ^ b.bits ≡ b.low = eqb-true _ _ q in
        eq-eqb _ _ (sym (low_of_low key a.bits b.bits le) ∙ ap (λ (i : ℕ). i % 2 ^ a.bits) y ∙ eqb-true _ _ h)
    by_case false e h = cc

pub own-low : (b : Bucket) → b.low < 2 ^ b.bits → contains b b.low ≡ true
unfolding contains
own-low b h = eq-eqb _ _ (mod-eq_of_lt h)

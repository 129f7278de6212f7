-- Buckets as sets of keys: children, parents and inclusion.
use Rattle.std.proofs.Common.{◌≡◌, ℕ, ◌+◌, ◌-◌, ◌*◌, ◌%◌, ◌^◌, ◌<◌, ◌≤◌, ◌⊎◌, ◌↔◌, Bool, true, nat_lt, IsTrue, inl, inr, sym, ap, ◌∙◌, subst, arith, mod-eq_of_lt, pow_pos, pow-suc, add-one, cond}
use Rattle.std.proofs.lemmas.Nat.{mod_low, pow_below}
use Rattle.std.proofs.lemmas.Bool.{cases_lt}
use Rattle.std.proofs.lemmas.Bool.Decides.{nat_tests}
use Rattle.bucket_ids.specs.Buckets.{Low, IsBucket, IsIn, Includes, covers, measure, first_child, second_child, parent_of, sibling_of}
use Rattle.bucket_ids.proofs.LowBits.{low_of_low, next_bit}

-- twice a power
double : (k : ℕ) → 2 ^ (k + 1) ≡ 2 ^ k + 2 ^ k
double k = rw add-one (rw (pow-suc 2 k) (omega arith))

pow_le : (i j : ℕ) → i ≤ j → 2 ^ i ≤ 2 ^ j
pow_le i j h = elim (cases_lt i j) [ inl less ↦ omega (arith, pow_below i j less) | inr more ↦ let e : i ≡ j = omega arith in rw e (omega arith) ]

low_again : (k low : ℕ) → low < 2 ^ k → (low + 2 ^ k) % 2 ^ k ≡ low
low_again k low h =
    let e : low + 2 ^ k ≡ 1 * 2 ^ k + low = omega arith in
    ap (λ x. x % 2 ^ k) e ∙ mod_low 1 k low h

fewer : (key k : ℕ) → key % 2 ^ (k + 1) % 2 ^ k ≡ key % 2 ^ k
fewer key k = low_of_low key k (k + 1) (omega arith)

pub children_parts : (b : Low) → IsBucket b → (key : ℕ) → IsIn b key ↔ (IsIn (first_child b) key ⊎ IsIn (second_child b) key)
children_parts b ok key = (
  λ h. elim (next_bit key b.bits b.low h.1) [ inl first ↦ inl (h.0, first) | inr second ↦ inr (h.0, second) ],
  λ h. elim h [
    | inl first ↦ (first.0, sym (fewer key b.bits) ∙ ap (λ x. x % 2 ^ b.bits) first.1 ∙ mod-eq_of_lt ok.fits)
    | inr second ↦ (second.0, sym (fewer key b.bits) ∙ ap (λ x. x % 2 ^ b.bits) second.1 ∙ low_again b.bits b.low ok.fits)
  ],
)

pub children_apart : (b : Low) → (key : ℕ) → IsIn (first_child b) key → IsIn (second_child b) key → ⊥
children_apart b key p q = omega (arith, p.1, q.1, pow_pos b.bits)

pub covers_includes : (a b : Low) → IsBucket a → covers a b ≡ true → Includes a b
covers_includes a b ok h key k =
    let bits : a.bits ≤ b.bits = grind (arith, nat_tests) in
    let low : b.low % 2 ^ a.bits ≡ a.low = grind (arith, nat_tests) in
    (k.0, sym (low_of_low key a.bits b.bits bits) ∙ ap (λ x. x % 2 ^ a.bits) k.1 ∙ low)

below_all : (b : Low) → IsBucket b → b.low < 2 ^ 58
below_all b ok = omega (arith, ok.fits, pow_le b.bits 58 ok.most)

-- the least key of a bucket
least_in : (b : Low) → IsBucket b → IsIn b b.low
least_in b ok = (below_all b ok, mod-eq_of_lt ok.fits)

-- the next key of a bucket
next_in : (b : Low) → IsBucket b → b.bits < 58 → IsIn b (b.low + 2 ^ b.bits)
next_in b ok h =
    (omega (arith, ok.fits, double b.bits, pow_le (b.bits + 1) 58 (omega arith)), low_again b.bits b.low ok.fits)

more_bits : (a b : Low) → IsBucket a → IsBucket b → Includes a b → b.bits < a.bits → ⊥
more_bits a b oka okb h less =
    let top : 2 ^ (b.bits + 1) ≤ 2 ^ a.bits = pow_le (b.bits + 1) a.bits (omega arith) in
    let first : b.low % 2 ^ a.bits ≡ b.low = mod-eq_of_lt (omega (arith, okb.fits, double b.bits, top)) in
    let second : (b.low + 2 ^ b.bits) % 2 ^ a.bits ≡ b.low + 2 ^ b.bits = mod-eq_of_lt (omega (arith, okb.fits, double b.bits, top)) in
    let one = (h b.low (least_in b okb)).1 in
    let two = (h (b.low + 2 ^ b.bits) (next_in b okb (omega (arith, oka.most)))).1 in
    omega (arith, sym first ∙ one, sym second ∙ two, pow_pos b.bits)

pub includes_covers : (a b : Low) → IsBucket a → IsBucket b → Includes a b → covers a b ≡ true
includes_covers a b oka okb h =
    let low : b.low % 2 ^ a.bits ≡ a.low = (h b.low (least_in b okb)).1 in
    elim (cases_lt b.bits a.bits) [ inl less ↦ absurd (more_bits a b oka okb h less) | inr more ↦ grind (arith, nat_tests) ]

pub parent_includes : (b : Low) → IsBucket b → 1 < b.bits → Includes (parent_of b) b
parent_includes b ok h key k =
    (k.0, sym (low_of_low key (b.bits - 1) b.bits (omega arith)) ∙ ap (λ x. x % 2 ^ (b.bits - 1)) k.1)

-- the halves of a number of m + 1 bits
half_below : (m low : ℕ) → low < 2 ^ m → low % 2 ^ m ≡ low
half_below m low h = mod-eq_of_lt h

half_above : (m low : ℕ) → low < 2 ^ (m + 1) → 2 ^ m ≤ low → low % 2 ^ m ≡ low - 2 ^ m
half_above m low top h =
    let e : low ≡ (low - 2 ^ m) + 2 ^ m = omega arith in
    ap (λ x. x % 2 ^ m) e ∙ low_again m (low - 2 ^ m) (omega (arith, double m))

-- of a bucket with m + 1 bits: the parent, and the low bits of the other half
parent_parts : (m low : ℕ) → low < 2 ^ (m + 1) → (key : ℕ)
    → (key % 2 ^ m ≡ low % 2 ^ m) ↔ ((key % 2 ^ (m + 1) ≡ low) ⊎ (key % 2 ^ (m + 1) ≡ cond (nat_lt low (2 ^ m)) (low + 2 ^ m) (low - 2 ^ m)))
parent_parts m low top key = elim (cases_lt low (2 ^ m)) [
  | inl below ↦
      let e = half_below m low below in
      let pick : cond (nat_lt low (2 ^ m)) (low + 2 ^ m) (low - 2 ^ m) ≡ low + 2 ^ m = grind (arith, nat_tests) in (
        λ h. elim (next_bit key m low (h ∙ e)) [ inl p ↦ inl p | inr p ↦ inr (p ∙ sym pick) ],
        λ h. elim h [
          | inl p ↦ sym (fewer key m) ∙ ap (λ x. x % 2 ^ m) p
          | inr p ↦ sym (fewer key m) ∙ ap (λ x. x % 2 ^ m) (p ∙ pick) ∙ low_again m low below ∙ sym e
        ],
      )
  | inr above ↦
      let e = half_above m low top above in
      let pick : cond (nat_lt low (2 ^ m)) (low + 2 ^ m) (low - 2 ^ m) ≡ low - 2 ^ m = grind (arith, nat_tests) in
      let back : (low - 2 ^ m) + 2 ^ m ≡ low = omega arith in
      let small : low - 2 ^ m < 2 ^ m = omega (arith, double m) in (
        λ h. elim (next_bit key m (low - 2 ^ m) (h ∙ e)) [ inl p ↦ inr (p ∙ sym pick) | inr p ↦ inl (p ∙ back) ],
        λ h. elim h [
          | inl p ↦ sym (fewer key m) ∙ ap (λ x. x % 2 ^ m) p
          | inr p ↦ sym (fewer key m) ∙ ap (λ x. x % 2 ^ m) (p ∙ pick) ∙ mod-eq_of_lt small ∙ sym e
        ],
      )
]

pub sibling_parts : (b : Low) → IsBucket b → 1 < b.bits → (key : ℕ) → IsIn (parent_of b) key ↔ (IsIn b key ⊎ IsIn (sibling_of b) key)
sibling_parts b ok h key =
    let m = b.bits - 1 in
    let e : b.bits ≡ m + 1 = omega arith in
    let top : b.low < 2 ^ (m + 1) = subst (λ k. b.low < 2 ^ k) e ok.fits in
    let parts = parent_parts m b.low top key in
    let at_bits : (x : ℕ) → key % 2 ^ (m + 1) ≡ x → key % 2 ^ b.bits ≡ x = λ x p. ap (λ k. key % 2 ^ k) e ∙ p in
    let at_more : (x : ℕ) → key % 2 ^ b.bits ≡ x → key % 2 ^ (m + 1) ≡ x = λ x p. ap (λ k. key % 2 ^ k) (sym e) ∙ p in (
      λ p. elim (parts.0 p.1) [ inl q ↦ inl (p.0, at_bits b.low q) | inr q ↦ inr (p.0, at_bits _ q) ],
      λ p. elim p [ inl q ↦ (q.0, parts.1 (inl (at_more b.low q.1))) | inr q ↦ (q.0, parts.1 (inr (at_more _ q.1))) ],
    )

pub sibling_apart : (b : Low) → (key : ℕ) → IsIn b key → IsIn (sibling_of b) key → ⊥
sibling_apart b key p q =
    let other : b.low ≡ cond (nat_lt b.low (2 ^ (b.bits - 1))) (b.low + 2 ^ (b.bits - 1)) (b.low - 2 ^ (b.bits - 1)) = sym p.1 ∙ q.1 in
    elim (cases_lt b.low (2 ^ (b.bits - 1))) [
      | inl below ↦
          let pick : cond (nat_lt b.low (2 ^ (b.bits - 1))) (b.low + 2 ^ (b.bits - 1)) (b.low - 2 ^ (b.bits - 1)) ≡ b.low + 2 ^ (b.bits - 1) = grind (arith, nat_tests) in
          omega (arith, other ∙ pick, pow_pos (b.bits - 1))
      | inr above ↦
          let pick : cond (nat_lt b.low (2 ^ (b.bits - 1))) (b.low + 2 ^ (b.bits - 1)) (b.low - 2 ^ (b.bits - 1)) ≡ b.low - 2 ^ (b.bits - 1) = grind (arith, nat_tests) in
          omega (arith, other ∙ pick, pow_pos (b.bits - 1))
    ]

-- the sibling is a bucket
pub sibling_fits : (b : Low) → IsBucket b → 1 < b.bits → IsBucket (sibling_of b)
sibling_fits b ok h =
    let m = b.bits - 1 in
    let e : b.bits ≡ m + 1 = omega arith in
    let top : b.low < 2 ^ (m + 1) = subst (λ k. b.low < 2 ^ k) e ok.fits in
    let fits : cond (nat_lt b.low (2 ^ m)) (b.low + 2 ^ m) (b.low - 2 ^ m) < 2 ^ (m + 1) = elim (cases_lt b.low (2 ^ m)) [
      | inl below ↦
          let pick : cond (nat_lt b.low (2 ^ m)) (b.low + 2 ^ m) (b.low - 2 ^ m) ≡ b.low + 2 ^ m = grind (arith, nat_tests) in
          omega (arith, pick, double m)
      | inr above ↦
          let pick : cond (nat_lt b.low (2 ^ m)) (b.low + 2 ^ m) (b.low - 2 ^ m) ≡ b.low - 2 ^ m = grind (arith, nat_tests) in
          omega (arith, pick)
    ] in
    record { some = ok.some; most = ok.most; fits = subst (λ k. cond (nat_lt b.low (2 ^ m)) (b.low + 2 ^ m) (b.low - 2 ^ m) < 2 ^ k) (sym e) fits }

pub covers_set : (a b : Low) (r : Bool) → IsBucket a → IsBucket b → r ≡ covers a b → IsTrue r ↔ Includes a b
covers_set a b r oka okb e = (λ h. covers_includes a b oka (sym e ∙ h), λ h. e ∙ includes_covers a b oka okb h)

pub measures_add : (b : Low) → IsBucket b → b.bits < 58 → measure (first_child b) + measure (second_child b) ≡ measure b
measures_add b ok h =
    let e : 58 - b.bits ≡ (58 - (b.bits + 1)) + 1 = omega arith in
    rw e (sym (double (58 - (b.bits + 1))))

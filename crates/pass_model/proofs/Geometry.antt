-- Buckets: which cover and which meet.
use Rattle.std.proofs.Common.{◌≡◌, ℕ, ◌+◌, ◌*◌, ◌%◌, ◌^◌, ◌<◌, ◌≤◌, true, false, sym, ap, ◌∙◌, subst, arith, eqb, eqb-true, eq-eqb, nat_le, ◌⊎◌, inl, inr, pow_pos, mod-eq_of_lt, pow-suc, add-one}
use Rattle.std.proofs.lemmas.Bool.{cases_lt}
use Rattle.std.proofs.lemmas.Nat.{mod_low}
use Rattle.bucket_ids.specs.Buckets.{Low, IsBucket, has_key, covers, first_child, second_child}
use Rattle.proof_basics.proofs.Numbers.{le-of, le-to}
use Rattle.bucket_ids.proofs.LowBits.{low_of_low, next_bit}
use Rattle.pieces.specs.Pieces.{same_bucket, meets}
use Rattle.proof_basics.proofs.Tests.{both, or_true, or_left, or_right, and_true, is_false, clash}
use Rattle.pieces.proofs.PieceLaws.{bucket-same}

pub covers-bits : (a b : Low) → covers a b ≡ true → a.bits ≤ b.bits
covers-bits a b h = le-of a.bits b.bits (both (nat_le a.bits b.bits) (has_key a b.low) h).0

covers-low : (a b : Low) → covers a b ≡ true → has_key a b.low ≡ true
covers-low a b h = (both (nat_le a.bits b.bits) (has_key a b.low) h).1

covers-make : (a b : Low) → a.bits ≤ b.bits → has_key a b.low ≡ true → covers a b ≡ true
covers-make a b p q = and_true (nat_le a.bits b.bits) (has_key a b.low) (le-to a.bits b.bits p) q

-- a key of the second is one of the first
pub covers-key : (a b : Low) (key : ℕ) → covers a b ≡ true → has_key b key ≡ true → has_key a key ≡ true
covers-key a b key c h =
    let x : key % 2 ^ b.bits ≡ b.low = eqb-true _ _ h in
    let y : b.low % 2 ^ a.bits ≡ a.low = eqb-true _ _ (covers-low a b c) in
    eq-eqb _ _ (sym (low_of_low key a.bits b.bits (covers-bits a b c)) ∙ ap (λ i. i % 2 ^ a.bits) x ∙ y)

-- of two buckets with a common key, that of fewer bits covers the other
covers-by : (a b : Low) (key : ℕ) → a.bits ≤ b.bits → has_key a key ≡ true → has_key b key ≡ true → covers a b ≡ true
covers-by a b key le p q =
    let x : key % 2 ^ a.bits ≡ a.low = eqb-true _ _ p in
    let y : key % 2 ^ b.bits ≡ b.low = eqb-true _ _ q in
    covers-make a b le (eq-eqb _ _ (ap (λ i. i % 2 ^ a.bits) (sym y) ∙ low_of_low key a.bits b.bits le ∙ x))

pub meets-by : (a b : Low) (key : ℕ) → has_key a key ≡ true → has_key b key ≡ true → meets a b ≡ true
meets-by a b key p q = elim (cases_lt b.bits a.bits) [
  | inl less ↦ or_right (covers a b) (covers b a) (covers-by b a key (omega (arith, less)) q p)
  | inr more ↦ or_left (covers a b) (covers b a) (covers-by a b key more p q)
]

pub has-low : (b : Low) → IsBucket b → has_key b b.low ≡ true
has-low b ok = eq-eqb _ _ (mod-eq_of_lt ok.fits)

pub covers-trans : (a b c : Low) → covers a b ≡ true → covers b c ≡ true → covers a c ≡ true
covers-trans a b c p q =
    let x = covers-bits a b p in let y = covers-bits b c q in
    covers-make a c (omega arith) (covers-key a b c.low p (covers-low b c q))

-- two buckets that cover each other are one
pub covers-both : (a b : Low) → IsBucket b → covers a b ≡ true → covers b a ≡ true → same_bucket a b ≡ true
covers-both a b ok p q =
    let x = covers-bits a b p in let y = covers-bits b a q in
    let bits : a.bits ≡ b.bits = omega arith in
    let low : b.low % 2 ^ a.bits ≡ a.low = eqb-true _ _ (covers-low a b p) in
    let own : b.low % 2 ^ b.bits ≡ b.low = mod-eq_of_lt ok.fits in
    and_true (eqb a.bits b.bits) (eqb a.low b.low) (eq-eqb _ _ bits) (eq-eqb _ _ (sym low ∙ ap (λ k. b.low % 2 ^ k) bits ∙ own))

pub meets-sym : (a b : Low) → meets a b ≡ true → meets b a ≡ true
meets-sym a b h = elim (or_true (covers a b) (covers b a) h) [ inl p ↦ or_right (covers b a) (covers a b) p | inr p ↦ or_left (covers b a) (covers a b) p ]

pub apart-sym : (a b : Low) → meets a b ≡ false → meets b a ≡ false
apart-sym a b h = is_false (meets b a) (λ t. clash (meets-sym b a t) h)

pub meets-covers : (a b : Low) → covers a b ≡ true → meets a b ≡ true
meets-covers a b h = or_left (covers a b) (covers b a) h

pub meets-covered : (a b : Low) → covers b a ≡ true → meets a b ≡ true
meets-covered a b h = or_right (covers a b) (covers b a) h

-- two buckets that cover a third one meet
pub meets-over : (a b c : Low) → covers a c ≡ true → covers b c ≡ true → meets a b ≡ true
meets-over a b c p q = meets-by a b c.low (covers-low a c p) (covers-low b c q)

-- what meets a part meets the whole
pub meets-part : (p q b : Low) → covers p q ≡ true → meets q b ≡ true → meets p b ≡ true
meets-part p q b c h = elim (or_true (covers q b) (covers b q) h) [
  | inl over ↦ meets-covers p b (covers-trans p q b c over)
  | inr inside ↦ meets-over p b q c inside
]

pub apart-part : (p q b : Low) → covers p q ≡ true → meets p b ≡ false → meets q b ≡ false
apart-part p q b c h = is_false (meets q b) (λ t. clash (meets-part p q b c t) h)

pub apart-part₂ : (b p q : Low) → covers p q ≡ true → meets b p ≡ false → meets b q ≡ false
apart-part₂ b p q c h = apart-sym q b (apart-part p q b c (apart-sym b p h))

-- ---- children

low_again : (k low : ℕ) → low < 2 ^ k → (low + 2 ^ k) % 2 ^ k ≡ low
low_again k low h =
    let e : low + 2 ^ k ≡ 1 * 2 ^ k + low = omega arith in
    ap (λ x. x % 2 ^ k) e ∙ mod_low 1 k low h

double : (k : ℕ) → 2 ^ (k + 1) ≡ 2 ^ k + 2 ^ k
double k = rw add-one (rw (pow-suc 2 k) (omega arith))

pub covers-first : (p : Low) → IsBucket p → covers p (first_child p) ≡ true
covers-first p ok = covers-make p (first_child p) (omega arith) (has-low p ok)

pub covers-second : (p : Low) → IsBucket p → covers p (second_child p) ≡ true
covers-second p ok = covers-make p (second_child p) (omega arith) (eq-eqb _ _ (low_again p.bits p.low ok.fits))

pub first-fits : (p : Low) → IsBucket p → p.bits < 58 → IsBucket (first_child p)
first-fits p ok h = record { some = omega arith; most = omega (arith, h); fits = let d = double p.bits in let f = ok.fits in omega arith }

pub second-fits : (p : Low) → IsBucket p → p.bits < 58 → IsBucket (second_child p)
second-fits p ok h = record { some = omega arith; most = omega (arith, h); fits = let d = double p.bits in let f = ok.fits in omega arith }

-- a key of a bucket is in a child
pub child_key : (p : Low) (key : ℕ) → has_key p key ≡ true → (has_key (first_child p) key ≡ true) ⊎ (has_key (second_child p) key ≡ true)
child_key p key h = elim (next_bit key p.bits p.low (eqb-true _ _ h)) [ inl first ↦ inl (eq-eqb _ _ first) | inr second ↦ inr (eq-eqb _ _ second) ]

-- a bucket strictly inside is inside a child
pub child_over : (p c : Low) → covers p c ≡ true → p.bits < c.bits → (covers (first_child p) c ≡ true) ⊎ (covers (second_child p) c ≡ true)
child_over p c h less = elim (child_key p c.low (covers-low p c h)) [
  | inl first ↦ inl (covers-make (first_child p) c (omega (arith, less)) first)
  | inr second ↦ inr (covers-make (second_child p) c (omega (arith, less)) second)
]

-- a bucket of as many bits inside is the bucket
pub covers-same : (p c : Low) → IsBucket p → IsBucket c → covers p c ≡ true → c.bits ≤ p.bits → same_bucket p c ≡ true
covers-same p c okp okc h le =
    let x = covers-bits p c h in
    let bits : p.bits ≡ c.bits = omega arith in
    let low : c.low % 2 ^ p.bits ≡ p.low = eqb-true _ _ (covers-low p c h) in
    and_true (eqb p.bits c.bits) (eqb p.low c.low) (eq-eqb _ _ bits) (eq-eqb _ _ (sym low ∙ ap (λ k. c.low % 2 ^ k) bits ∙ mod-eq_of_lt okc.fits))

pub children-apart : (p : Low) → IsBucket p → p.bits < 58 → meets (first_child p) (second_child p) ≡ false
children-apart p ok h = is_false (meets (first_child p) (second_child p)) (λ t. elim (or_true (covers (first_child p) (second_child p)) (covers (second_child p) (first_child p)) t) [
  | inl x ↦ differ (bucket-same _ _ (covers-same _ _ (first-fits p ok h) (second-fits p ok h) x (omega arith)))
  | inr x ↦ differ (sym (bucket-same _ _ (covers-same _ _ (second-fits p ok h) (first-fits p ok h) x (omega arith))))
])
  where
    differ : first_child p ≡ second_child p → ⊥
    differ e = let l = ap (λ (x : Low). x.low) e in let pos = pow_pos p.bits in omega arith

-- a bucket apart from both children is apart from the parent
pub children-of-apart : (p c : Low) → IsBucket p → IsBucket c → p.bits < 58 → meets c (first_child p) ≡ false → meets c (second_child p) ≡ false → meets c p ≡ false
children-of-apart p c ok okc few one two = is_false (meets c p) (λ m. elim (or_true (covers c p) (covers p c) m) [
  | inl over ↦ clash (meets-covers c (first_child p) (covers-trans c p (first_child p) over (covers-first p ok))) one
  | inr inside ↦ elim (cases_lt p.bits c.bits) [
    | inl less ↦ elim (child_over p c inside less) [ inl x ↦ clash (meets-covered c (first_child p) x) one | inr x ↦ clash (meets-covered c (second_child p) x) two ]
    | inr more ↦ clash (subst (λ d. meets d (first_child p) ≡ true) (bucket-same p c (covers-same p c ok okc inside more)) (meets-covers p (first_child p) (covers-first p ok))) one
  ]
])

-- Buckets inside buckets, and their numbers.
use Rattle.std.proofs.Common.{◌≡◌, ℕ, ◌+◌, ◌-◌, ◌*◌, ◌/◌, ◌%◌, ◌^◌, ◌<◌, ◌≤◌, ◌⊎◌, Bool, true, false, nat_lt, cond, inl, inr, refl, sym, ap, ap₂, ◌∙◌, subst, arith, add_comm, add-one, pow-suc, pow_pos, mod-eq_of_lt}
use Rattle.std.proofs.lemmas.Nat.{mod-pow-add, mod_below, mod_low, pow_below}
use Rattle.std.proofs.Math.Pow.{mod-mod-pow}
use Rattle.std.proofs.lemmas.Bool.{cases_lt}
use Rattle.std.proofs.lemmas.Bool.Decides.{nat_tests}
use Rattle.bucket_ids.specs.Buckets.{Low, IsBucket, has_key, covers, first_child, second_child, parent_of, sibling_of}
use Rattle.bucket_ids.specs.Printed.{number_of}
use Rattle.bucket_db.specs.Answers.{is_inside}

double : (k : ℕ) → 2 ^ (k + 1) ≡ 2 ^ k + 2 ^ k
double k = rw add-one (rw (pow-suc 2 k) (omega arith))

pub pow_le : (i j : ℕ) → i ≤ j → 2 ^ i ≤ 2 ^ j
pow_le i j h = elim (cases_lt i j) [ inl less ↦ omega (arith, pow_below i j less) | inr more ↦ let e : i ≡ j = omega arith in rw e (omega arith) ]

-- ---- the low bits of a key

-- the low bits of the low bits
pub low_of_low : (key i j : ℕ) → i ≤ j → key % 2 ^ j % 2 ^ i ≡ key % 2 ^ i
low_of_low key i j h =
    let e : j ≡ (j - i) + i = omega arith in
    subst (λ m. key % 2 ^ m % 2 ^ i ≡ key % 2 ^ i) (sym e) (mod-mod-pow key (j - i) i)

one_bit : (q : ℕ) → q < 2 → (q ≡ 0) ⊎ (q ≡ 1)
one_bit q h = elim (cases_lt q 1) [ inl none ↦ inl (omega arith) | inr one ↦ inr (omega arith) ]

-- the next bit is 0 or 1
next_bit : (key k low : ℕ) → key % 2 ^ k ≡ low → (key % 2 ^ (k + 1) ≡ low) ⊎ (key % 2 ^ (k + 1) ≡ low + 2 ^ k)
next_bit key k low h =
    let bit = key / 2 ^ k % 2 ^ 1 in
    let whole : key % 2 ^ (k + 1) ≡ bit * 2 ^ k + key % 2 ^ k = ap (λ m. key % 2 ^ m) (add_comm k 1) ∙ mod-pow-add key 1 k in
    elim (one_bit bit (mod_below (key / 2 ^ k) 2 (omega arith))) [
      | inl zero ↦ inl (whole ∙ ap (λ x. x * 2 ^ k + key % 2 ^ k) zero ∙ omega (arith, h))
      | inr one ↦ inr (whole ∙ ap (λ x. x * 2 ^ k + key % 2 ^ k) one ∙ omega (arith, h))
    ]

-- the low bits of a number of the second half
low_again : (k low : ℕ) → low < 2 ^ k → (low + 2 ^ k) % 2 ^ k ≡ low
low_again k low h =
    let e : low + 2 ^ k ≡ 1 * 2 ^ k + low = omega arith in
    ap (λ x. x % 2 ^ k) e ∙ mod_low 1 k low h

-- ---- numbers and tests of buckets

pub low_below : (b : Low) → IsBucket b → b.low < 2 ^ 58
low_below b ok = omega (arith, ok.fits, pow_le b.bits 58 ok.most)

-- a smaller number has no more bits, and equal numbers are of one bucket
pub number_bits : (a b : Low) → IsBucket a → IsBucket b → number_of a ≤ number_of b → a.bits ≤ b.bits
number_bits a b oka okb le = omega (arith, low_below a oka, low_below b okb, le)

pub number_same : (a b : Low) → IsBucket a → IsBucket b → number_of a ≡ number_of b → a ≡ b
number_same a b oka okb e =
    let bits : a.bits ≡ b.bits = omega (arith, low_below a oka, low_below b okb, e) in
    let low : a.low ≡ b.low = omega (arith, e, bits) in
    ap₂ (λ x y. record { bits = x; low = y }) bits low

pub key_in : (b : Low) (key : ℕ) → has_key b key ≡ true → key % 2 ^ b.bits ≡ b.low
key_in b key h = grind (arith, nat_tests)

pub key_has : (b : Low) (key : ℕ) → key % 2 ^ b.bits ≡ b.low → has_key b key ≡ true
key_has b key h = grind (arith, nat_tests)

covers_bits : (a b : Low) → covers a b ≡ true → a.bits ≤ b.bits
covers_bits a b h = grind (arith, nat_tests)

pub covers_low : (a b : Low) → covers a b ≡ true → b.low % 2 ^ a.bits ≡ a.low
covers_low a b h = grind (arith, nat_tests)

pub covers_from : (a b : Low) → a.bits ≤ b.bits → b.low % 2 ^ a.bits ≡ a.low → covers a b ≡ true
covers_from a b bits low = grind (arith, nat_tests)

inside_bits : (a b : Low) → is_inside a b ≡ true → a.bits < b.bits
inside_bits a b h = grind (arith, nat_tests)

inside_covers : (a b : Low) → is_inside a b ≡ true → covers a b ≡ true
inside_covers a b h = grind (arith, nat_tests)

inside_from : (a b : Low) → a.bits < b.bits → covers a b ≡ true → is_inside a b ≡ true
inside_from a b bits h = grind (arith, nat_tests)

pub covers_self : (b : Low) → IsBucket b → covers b b ≡ true
covers_self b ok = covers_from b b (omega arith) (mod-eq_of_lt ok.fits)

pub covers_trans : (a b c : Low) → covers a b ≡ true → covers b c ≡ true → covers a c ≡ true
covers_trans a b c h k =
    let ab = covers_bits a b h in
    let bc = covers_bits b c k in
    covers_from a c (omega (arith, ab, bc)) (sym (low_of_low c.low a.bits b.bits ab) ∙ ap (λ x. x % 2 ^ a.bits) (covers_low b c k) ∙ covers_low a b h)

pub covers_key : (a b : Low) (key : ℕ) → covers a b ≡ true → has_key b key ≡ true → has_key a key ≡ true
covers_key a b key h k =
    key_has a key (sym (low_of_low key a.bits b.bits (covers_bits a b h)) ∙ ap (λ x. x % 2 ^ a.bits) (key_in b key k) ∙ covers_low a b h)

-- what lies strictly inside a part lies strictly inside the whole
pub inside_under : (c r a : Low) → covers c r ≡ true → is_inside r a ≡ true → is_inside c a ≡ true
inside_under c r a h k =
    let cr = covers_bits c r h in
    let ra = inside_bits r a k in
    inside_from c a (omega (arith, cr, ra)) (covers_trans c r a h (inside_covers r a k))

-- ---- children

pub first_valid : (b : Low) → IsBucket b → b.bits < 58 → IsBucket (first_child b)
first_valid b ok lt = record { some = omega arith; most = omega arith; fits = omega (arith, ok.fits, double b.bits) }

pub second_valid : (b : Low) → IsBucket b → b.bits < 58 → IsBucket (second_child b)
second_valid b ok lt = record { some = omega arith; most = omega arith; fits = omega (arith, ok.fits, double b.bits) }

pub covers_first : (b : Low) → IsBucket b → covers b (first_child b) ≡ true
covers_first b ok = covers_from b (first_child b) (omega arith) (mod-eq_of_lt ok.fits)

pub covers_second : (b : Low) → IsBucket b → covers b (second_child b) ≡ true
covers_second b ok = covers_from b (second_child b) (omega arith) (low_again b.bits b.low ok.fits)

-- a key of a bucket has one of its children
pub key_in_half : (b : Low) (key : ℕ) → has_key b key ≡ true → (has_key (first_child b) key ≡ true) ⊎ (has_key (second_child b) key ≡ true)
key_in_half b key h = elim (next_bit key b.bits b.low (key_in b key h)) [
  | inl first ↦ inl (key_has (first_child b) key first)
  | inr second ↦ inr (key_has (second_child b) key second)
]

parts_count : (p q r : Bool) → (r ≡ true → (p ≡ true) ⊎ (q ≡ true)) → (p ≡ true → r ≡ true) → (q ≡ true → r ≡ true) → (p ≡ true → q ≡ true → ⊥)
    → cond p 1 0 + cond q 1 0 ≡ cond r 1 0
parts_count true true r a b c d = absurd (d refl refl)
parts_count true false true a b c d = refl
parts_count true false false a b c d = let e : false ≡ true = b refl in cc
parts_count false true true a b c d = refl
parts_count false true false a b c d = let e : false ≡ true = c refl in cc
parts_count false false true a b c d = elim (a refl) [ inl e ↦ let f : false ≡ true = e in cc | inr e ↦ let f : false ≡ true = e in cc ]
parts_count false false false a b c d = refl

-- a key of a bucket lies in exactly one of its children
pub halves : (b : Low) → IsBucket b → (key : ℕ)
    → cond (has_key (first_child b) key) 1 0 + cond (has_key (second_child b) key) 1 0 ≡ cond (has_key b key) 1 0
halves b ok key = parts_count (has_key (first_child b) key) (has_key (second_child b) key) (has_key b key)
    (key_in_half b key)
    (covers_key b (first_child b) key (covers_first b ok))
    (covers_key b (second_child b) key (covers_second b ok))
    (λ h k. omega (arith, key_in (first_child b) key h, key_in (second_child b) key k, pow_pos b.bits))

-- what lies strictly inside lies in a child
pub child_covers : (b o : Low) → covers b o ≡ true → b.bits < o.bits → (covers (first_child b) o ≡ true) ⊎ (covers (second_child b) o ≡ true)
child_covers b o h lt = elim (next_bit o.low b.bits b.low (covers_low b o h)) [
  | inl first ↦ inl (covers_from (first_child b) o (omega arith) first)
  | inr second ↦ inr (covers_from (second_child b) o (omega arith) second)
]

-- a part of as many bits is the whole
pub same_or_inside : (b o : Low) → IsBucket o → covers b o ≡ true → (b ≡ o) ⊎ (b.bits < o.bits)
same_or_inside b o oko h = elim (cases_lt b.bits o.bits) [
  | inl less ↦ inr less
  | inr more ↦
      let bits : b.bits ≡ o.bits = omega (arith, covers_bits b o h) in
      let low : o.low % 2 ^ b.bits ≡ o.low = ap (λ k. o.low % 2 ^ k) bits ∙ mod-eq_of_lt oko.fits in
      inl (ap₂ (λ x y. record { bits = x; low = y }) bits (sym (covers_low b o h) ∙ low))
]

-- ---- parents and siblings

pub parent_valid : (b : Low) → IsBucket b → 1 < b.bits → IsBucket (parent_of b)
parent_valid b ok more = record { some = omega arith; most = omega (arith, ok.most); fits = mod_below b.low (2 ^ (b.bits - 1)) (pow_pos (b.bits - 1)) }

-- a bucket and its sibling are the children of the parent, in this order or the other
pub children_of_parent : (b : Low) → IsBucket b → 1 < b.bits
    → ((first_child (parent_of b) ≡ b) × (second_child (parent_of b) ≡ sibling_of b)) ⊎ ((first_child (parent_of b) ≡ sibling_of b) × (second_child (parent_of b) ≡ b))
children_of_parent b ok more = elim (cases_lt b.low half) [
  | inl below ↦
      let low : b.low % half ≡ b.low = mod-eq_of_lt below in
      let other : cond (nat_lt b.low half) (b.low + half) (b.low - half) ≡ b.low + half = grind (arith, nat_tests) in
      inl (same_low bits low, same_low bits (ap (λ x. x + half) low ∙ sym other))
  | inr above ↦
      let low : b.low % half ≡ b.low - half = low_of_rest above in
      let other : cond (nat_lt b.low half) (b.low + half) (b.low - half) ≡ b.low - half = grind (arith, nat_tests) in
      inr (same_low bits (low ∙ sym other), same_low bits (omega (arith, low)))
]
  where
    half : ℕ
    half = 2 ^ (b.bits - 1)

    bits : (b.bits - 1) + 1 ≡ b.bits
    bits = omega arith

    same_low : {i j x y : ℕ} → i ≡ j → x ≡ y → (let n : Low = record { bits = i; low = x } in n) ≡ record { bits = j; low = y }
    same_low e f = ap₂ (λ i x. record { bits = i; low = x }) e f

    top : b.low < half + half
    top = omega (arith, subst (λ k. b.low < 2 ^ k) (sym bits) ok.fits, double (b.bits - 1))

    low_of_rest : half ≤ b.low → b.low % half ≡ b.low - half
    low_of_rest above =
        let whole : b.low ≡ (b.low - half) + half = omega arith in
        ap (λ x. x % half) whole ∙ low_again (b.bits - 1) (b.low - half) (omega (arith, top))

pub covers_own : (b : Low) → covers (parent_of b) b ≡ true
covers_own b = covers_from (parent_of b) b (omega arith) refl

pub covers_sibling : (b : Low) → IsBucket b → 1 < b.bits → covers (parent_of b) (sibling_of b) ≡ true
covers_sibling b ok more =
    let valid = parent_valid b ok more in
    elim (children_of_parent b ok more) [
      | inl e ↦ subst (λ (x : Low). covers (parent_of b) x ≡ true) e.1 (covers_second (parent_of b) valid)
      | inr e ↦ subst (λ (x : Low). covers (parent_of b) x ≡ true) e.0 (covers_first (parent_of b) valid)
    ]

pub sibling_valid : (b : Low) → IsBucket b → 1 < b.bits → IsBucket (sibling_of b)
sibling_valid b ok more =
    let valid = parent_valid b ok more in
    let fewer : (parent_of b).bits < 58 = omega (arith, ok.most) in
    elim (children_of_parent b ok more) [
      | inl e ↦ subst IsBucket e.1 (second_valid (parent_of b) valid fewer)
      | inr e ↦ subst IsBucket e.0 (first_valid (parent_of b) valid fewer)
    ]

-- a key of the parent has the bucket or its sibling
pub key_in_either : (b : Low) (key : ℕ) → IsBucket b → 1 < b.bits → has_key (parent_of b) key ≡ true → (has_key b key ≡ true) ⊎ (has_key (sibling_of b) key ≡ true)
key_in_either b key ok more h = elim (children_of_parent b ok more) [
  | inl e ↦ elim (key_in_half (parent_of b) key h) [
    | inl first ↦ inl (subst (λ (x : Low). has_key x key ≡ true) e.0 first)
    | inr second ↦ inr (subst (λ (x : Low). has_key x key ≡ true) e.1 second)
  ]
  | inr e ↦ elim (key_in_half (parent_of b) key h) [
    | inl first ↦ inr (subst (λ (x : Low). has_key x key ≡ true) e.0 first)
    | inr second ↦ inl (subst (λ (x : Low). has_key x key ≡ true) e.1 second)
  ]
]

pub sibling_differs : (b : Low) → b ≡ sibling_of b → ⊥
sibling_differs b e =
    let half = 2 ^ (b.bits - 1) in
    let same : b.low ≡ cond (nat_lt b.low half) (b.low + half) (b.low - half) = ap (λ (x : Low). x.low) e in
    elim (cases_lt b.low half) [
      | inl below ↦
          let other : cond (nat_lt b.low half) (b.low + half) (b.low - half) ≡ b.low + half = grind (arith, nat_tests) in
          omega (arith, same ∙ other, pow_pos (b.bits - 1))
      | inr above ↦
          let other : cond (nat_lt b.low half) (b.low + half) (b.low - half) ≡ b.low - half = grind (arith, nat_tests) in
          omega (arith, same ∙ other, pow_pos (b.bits - 1))
    ]

-- ---- a bucket that has another's keys covers it

pub has_low : (b : Low) → IsBucket b → has_key b b.low ≡ true
has_low b ok = key_has b b.low (mod-eq_of_lt ok.fits)

pub covers_keys : (a b : Low) → IsBucket a → IsBucket b → ((key : ℕ) → key < 2 ^ 58 → has_key b key ≡ true → has_key a key ≡ true) → covers a b ≡ true
covers_keys a b oka okb within =
    let low = key_in a b.low (within b.low (low_below b okb) (has_low b okb)) in
    elim (cases_lt b.bits a.bits) [
      | inr more ↦ covers_from a b more low
      | inl fewer ↦
          let next = b.low + 2 ^ b.bits in
          let small : next < 2 ^ 58 = low_below (second_child b) (second_valid b okb (omega (arith, oka.most))) in
          let other = key_in a next (within next small (key_has b next (low_again b.bits b.low okb.fits))) in
          let top : 2 ^ (b.bits + 1) ≤ 2 ^ a.bits = pow_le (b.bits + 1) a.bits (omega arith) in
          let first : b.low % 2 ^ a.bits ≡ b.low = mod-eq_of_lt (omega (arith, okb.fits, double b.bits, top)) in
          let second : next % 2 ^ a.bits ≡ next = mod-eq_of_lt (omega (arith, okb.fits, double b.bits, top)) in
          absurd (omega (arith, sym first ∙ low, sym second ∙ other, pow_pos b.bits))
    ]

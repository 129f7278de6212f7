-- The members after a change of bits.
use Rattle.std.proofs.Common.{◌≡◌, ◌≢◌, ◌==◌, ◌&&◌, ◌||◌, ◌⊎◌, not, ℕ, zero, suc, ◌+◌, ◌-◌, ◌*◌, ◌/◌, ◌%◌, ◌^◌, ◌<◌, ◌≤◌, Bool, true, false, nat_lt, min, max, inl, inr, refl, sym, ap, ◌∙◌, arith, cond, eq-eqb, IsTrue, ap₂, add_comm, pow_pos}
use Rattle.std.proofs.lemmas.Bool.{cases_lt, cases_eq, false≢true}
use Rattle.std.proofs.lemmas.Bool.Decides.{nat_tests}
use Rattle.std.proofs.lemmas.Nat.{one_shl, mod_below, and_mask, mod-pow-add, ones_cat}
use Rattle.std.proofs.lemmas.Nat.Bits.{bit_at-lt, shr_and_one, bit_at-zero, same_from_bits_below, bit_at_and, bit_at_or, bit_at_not, bit_at-pow_same, bit_at-pow_other}
use Rattle.std.specs.Int.{bit_at, bit_not, w32}
use Rattle.std.specs.Int.Bits.{bit_and, bit_or}
use Rattle.std.specs.Int.Count.{ones-ones}
use Rattle.std.specs.Prelude.{count_ones}
use Rattle.node_sets.specs.Members.{has_node, size_below, size_of, Within}

bit_cases : (x : ℕ) → x < 2 → (x ≡ 0) ⊎ (x ≡ 1)
bit_cases zero h = inl refl
bit_cases (suc zero) h = inr refl
bit_cases (suc (suc x)) h = absurd (omega arith)

both : (t : Bool) (x y : ℕ) → x < 2 → y < 2 → (t && min x y == 1) ≡ ((t && x == 1) && (t && y == 1))
both false x y h k = refl
both true x y h k = elim (bit_cases x h) [
  | inl a ↦ rw a (elim (bit_cases y k) [ inl b ↦ rw b refl | inr b ↦ rw b refl ])
  | inr a ↦ rw a (elim (bit_cases y k) [ inl b ↦ rw b refl | inr b ↦ rw b refl ])
]

either : (t : Bool) (x y : ℕ) → x < 2 → y < 2 → (t && max x y == 1) ≡ ((t && x == 1) || (t && y == 1))
either false x y h k = refl
either true x y h k = elim (bit_cases x h) [
  | inl a ↦ rw a (elim (bit_cases y k) [ inl b ↦ rw b refl | inr b ↦ rw b refl ])
  | inr a ↦ rw a (elim (bit_cases y k) [ inl b ↦ rw b refl | inr b ↦ rw b refl ])
]

pub has_and : (a b n : ℕ) → has_node (bit_and a b) n ≡ (has_node a n && has_node b n)
unfolding has_node
has_and a b n = ap (λ x. nat_lt n 32 && x == 1) (bit_at_and a b n) ∙ both (nat_lt n 32) (bit_at a n) (bit_at b n) (bit_at-lt a n) (bit_at-lt b n)

pub has_or : (a b n : ℕ) → has_node (bit_or a b) n ≡ (has_node a n || has_node b n)
unfolding has_node
has_or a b n = ap (λ x. nat_lt n 32 && x == 1) (bit_at_or a b n) ∙ either (nat_lt n 32) (bit_at a n) (bit_at b n) (bit_at-lt a n) (bit_at-lt b n)

other_bit : (x : ℕ) → x < 2 → (1 - x == 1) ≡ not (x == 1)
other_bit x h = elim (bit_cases x h) [ inl a ↦ rw a refl | inr a ↦ rw a refl ]

pub has_not : (b n : ℕ) → b < 2 ^ 32 → n < 32 → has_node (bit_not w32 b) n ≡ not (has_node b n)
unfolding has_node
has_not b n h k =
    let within : nat_lt n 32 ≡ true = grind (arith, nat_tests) in
    ap (λ t. t && bit_at (bit_not w32 b) n == 1) within ∙ ap (λ x. x == 1) (bit_at_not w32 b n h k) ∙ other_bit (bit_at b n) (bit_at-lt b n) ∙ sym (ap (λ t. not (t && bit_at b n == 1)) within)

past_all : (b n : ℕ) → 32 ≤ n → has_node b n ≡ false
unfolding has_node
past_all b n h =
    let past : nat_lt n 32 ≡ false = grind (arith, nat_tests) in
    ap (λ t. t && bit_at b n == 1) past

without_all : (x : Bool) → (false && x) ≡ false
without_all x = refl

pub has_and_not : (a b n : ℕ) → b < 2 ^ 32 → has_node (bit_and a (bit_not w32 b)) n ≡ (has_node a n && not (has_node b n))
has_and_not a b n h = elim (cases_lt n 32) [
  | inl within ↦ has_and a (bit_not w32 b) n ∙ ap (λ x. has_node a n && x) (has_not b n h within)
  | inr past ↦ past_all (bit_and a (bit_not w32 b)) n (omega (arith, past)) ∙ sym (ap (λ x. x && not (has_node b n)) (past_all a n (omega (arith, past))))
]

-- a set of one member
pub has_one : (node n : ℕ) → node < 32 → has_node (1 * 2 ^ node % 2 ^ 32) n ≡ (n == node)
unfolding has_node
has_one node n h =
    rw (one_shl node 32 h)
    (elim (cases_eq n node) [
      | inl same ↦
          let within : nat_lt n 32 ≡ true = grind (arith, nat_tests) in
          ap (λ t. t && bit_at (2 ^ node) n == 1) within ∙ ap (λ i. bit_at (2 ^ node) i == 1) same ∙ ap (λ x. x == 1) (bit_at-pow_same node) ∙ sym (eq-eqb n node same)
      | inr other ↦ ap (λ x. nat_lt n 32 && x == 1) (bit_at-pow_other node n other) ∙ nothing (nat_lt n 32) ∙ sym (apart n node other)
    ])
  where
    nothing : (t : Bool) → (t && false) ≡ false
    nothing true = refl
    nothing false = refl

    apart : (n node : ℕ) → n ≢ node → (n == node) ≡ false
    apart n node h = grind (arith, nat_tests)

-- ---- sets of the same members

bit_test : (x y : ℕ) → x < 2 → y < 2 → (x == 1) ≡ (y == 1) → x ≡ y
bit_test x y h k e = grind (arith, nat_tests)

pub same_members : (a b : ℕ) → a < 2 ^ 32 → b < 2 ^ 32 → ((node : ℕ) → node < 32 → has_node a node ≡ has_node b node) → a ≡ b
unfolding has_node
same_members a b h k same = same_from_bits_below 32 a b h k (λ i within.
    let inside : nat_lt i 32 ≡ true = grind (arith, nat_tests) in
    bit_test (bit_at a i) (bit_at b i) (bit_at-lt a i) (bit_at-lt b i)
    (sym (ap (λ t. t && bit_at a i == 1) inside) ∙ same i within ∙ ap (λ t. t && bit_at b i == 1) inside))

pub has_none : (n : ℕ) → has_node 0 n ≡ false
unfolding has_node
has_none n = ap (λ x. nat_lt n 32 && x == 1) (bit_at-zero n) ∙ none (nat_lt n 32)
  where
    none : (t : Bool) → (t && false) ≡ false
    none true = refl
    none false = refl

implied : (a b : Bool) → (a && not b) ≡ false → a ≡ true → b ≡ true
implied true true h e = refl
implied true false h e = cc
implied false b h e = cc

refuted : (a b : Bool) → (a ≡ true → b ≡ true) → (a && not b) ≡ false
refuted true true h = refl
refuted true false h = absurd (false≢true (h refl))
refuted false b h = refl

-- nothing is left of a set within another, and only of such
pub within_from_none : (a b d : ℕ) → ((n : ℕ) → has_node d n ≡ (has_node a n && not (has_node b n))) → d ≡ 0 → Within a b
within_from_none a b d is none n has = implied (has_node a n) (has_node b n) (sym (is n) ∙ ap (λ x. has_node x n) none ∙ has_none n) has

pub none_from_within : (a b d : ℕ) → d < 2 ^ 32 → ((n : ℕ) → has_node d n ≡ (has_node a n && not (has_node b n))) → Within a b → d ≡ 0
none_from_within a b d h is within = same_members d 0 h (omega arith) (λ n k. is n ∙ refuted (has_node a n) (has_node b n) (within n) ∙ sym (has_none n))

-- ---- sizes

pub size_below_most : (a k : ℕ) → size_below a k ≤ k
unfolding size_below
size_below_most a zero = omega arith
size_below_most a (suc k) = one_more (has_node a k) (size_below a k) k (size_below_most a k)
  where
    one_more : (t : Bool) (n k : ℕ) → n ≤ k → n + cond t 1 0 ≤ suc k
    one_more true n k h = omega arith
    one_more false n k h = omega arith

pub size_of_most : (a : ℕ) → size_of a ≤ 32
unfolding size_of
size_of_most a = size_below_most a 32

pub size_next : (a k : ℕ) → size_below a (k + 1) ≡ size_below a k + cond (has_node a k) 1 0
unfolding size_below
size_next a k = ap (size_below a) (next k)
  where
    next : (k : ℕ) → k + 1 ≡ suc k
    next k = omega arith

pub size_whole : (a : ℕ) → size_of a ≡ size_below a 32
unfolding size_of
size_whole a = refl

bit_is : (a n : ℕ) → a / 2 ^ n % 2 ^ 1 ≡ bit_at a n
bit_is a n = sym (and_mask (a / 2 ^ n) 1) ∙ shr_and_one a n

ones_of_bit : (x : ℕ) → x < 2 → count_ones x ≡ cond (x == 1) 1 0
ones_of_bit x h = elim (bit_cases x h) [ inl none ↦ rw none (ones-ones 0) | inr one ↦ rw one (ones-ones 1) ]

ones_of_member : (a n : ℕ) → n < 32 → count_ones (bit_at a n) ≡ cond (has_node a n) 1 0
unfolding has_node
ones_of_member a n h =
    let within : nat_lt n 32 ≡ true = grind (arith, nat_tests) in
    ones_of_bit (bit_at a n) (bit_at-lt a n) ∙ sym (ap (λ t. cond (t && bit_at a n == 1) 1 0) within)

-- the ones among the lowest bits are the members below
pub ones_below : (a k : ℕ) → k ≤ 32 → count_ones (a % 2 ^ k) ≡ size_below a k
unfolding size_below
ones_below a zero h = ap count_ones (below_one (a % 2 ^ 0) (mod_below a 1 (omega arith))) ∙ ones-ones 0
  where
    below_one : (x : ℕ) → x < 1 → x ≡ 0
    below_one x h = omega arith
ones_below a (suc k) h =
    ap (λ m. count_ones (a % 2 ^ m)) (next k)
    ∙ ap count_ones (mod-pow-add a 1 k)
    ∙ ones_cat k (a / 2 ^ k % 2 ^ 1) (a % 2 ^ k) (mod_below a (2 ^ k) (pow_pos k))
    ∙ ap₂ (λ x y. x + y) (ap count_ones (bit_is a k) ∙ ones_of_member a k (omega arith)) (ones_below a k (omega arith))
    ∙ add_comm (cond (has_node a k) 1 0) (size_below a k)
  where
    next : (k : ℕ) → suc k ≡ 1 + k
    next k = omega arith

-- ---- one bit

pub has_bit : (a n : ℕ) → n < 32 → (bit_and (a / 2 ^ n) 1 == 1) ≡ has_node a n
unfolding has_node
has_bit a n h =
    let inside : nat_lt n 32 ≡ true = grind (arith, nat_tests) in
    ap (λ x. x == 1) (shr_and_one a n) ∙ sym (ap (λ t. t && bit_at a n == 1) inside)

pub past_bits : (a n : ℕ) → 32 ≤ n → nat_lt n 32 ≡ has_node a n
past_bits a n h = past n h ∙ sym (past_all a n h)
  where
    past : (n : ℕ) → 32 ≤ n → nat_lt n 32 ≡ false
    past n h = grind (arith, nat_tests)

pub one_small : (node : ℕ) → 1 * 2 ^ node % 2 ^ 32 < 2 ^ 32
one_small node = mod_below (1 * 2 ^ node) (2 ^ 32) (omega arith)

pub size_none : (a : ℕ) → 0 ≡ size_below a 0
unfolding size_below
size_none a = refl

pub is_zero : (d : ℕ) → IsTrue (d == 0) → d ≡ 0
is_zero d h = grind (arith, nat_tests)

pub zero_is : (d : ℕ) → d ≡ 0 → IsTrue (d == 0)
zero_is d e = grind (arith, nat_tests)

-- the member of a place is not passed over
pub place_within : (a seen node index : ℕ) → seen ≡ size_below a node → node ≤ 32 → seen ≤ index → index < size_of a → node < 32
place_within a seen node index is most few within = elim (cases_eq node 32) [
  | inl last ↦ absurd (omega (arith, is ∙ ap (size_below a) last ∙ sym (size_whole a)))
  | inr other ↦ omega arith
]

pub seen_few : (has : Bool) (seen index : ℕ) → (has && seen == index) ≡ false → seen ≤ index → seen + cond has 1 0 ≤ index
seen_few true seen index h few = grind (arith, nat_tests)
seen_few false seen index h few = omega arith

-- How two words tell marks: the set of the numbers that are up and that of the retired ones.
use Rattle.std.proofs.Common.{◌≡◌, ◌==◌, ◌&&◌, ℕ, zero, suc, ◌+◌, ◌*◌, ◌/◌, ◌%◌, ◌^◌, ◌<◌, ◌≤◌, Bool, true, false, cond, nat_lt, List, [], ◌∷◌, length, get_or, map, inl, inr, refl, sym, ap, ap₂, ◌∙◌, pow-suc, arith}
use Rattle.std.specs.List.{range_with_len}
use Rattle.std.specs.Int.{bit_at}
use Rattle.std.proofs.lemmas.Bool.{cases_lt, false≢true}
use Rattle.std.proofs.lemmas.Bool.Decides.{nat_tests}
use Rattle.std.proofs.lemmas.Nat.Bits.{bit_at_lowest, bit_at-suc, bit_at-zero}
use Rattle.std.proofs.lemmas.List.{get_or_past}
use Rattle.std.proofs.lemmas.List.FromFn.{length-map-range_with_len, get_or-map-range_with_len}
use Rattle.node_sets.specs.Members.{has_node}
use Rattle.node_sets.proofs.Bits.{same_members}
use Rattle.cluster_states.specs.declared.marks.Mark.{Mark}
use Rattle.cluster_states.specs.declared.marks.Mark.TheVariants.{Up, Down, Retired}
use Rattle.cluster_states.specs.MarkTests.{is_up}

abbrev pub is_retired : Mark → Bool
is_retired Up = false
is_retired Down = false
is_retired Retired = true

-- the mark of a number that is up or not, and retired or not
abbrev pub mark_of : Bool → Bool → Mark
mark_of true retired = Up
mark_of false true = Retired
mark_of false false = Down

abbrev pub marked : ℕ → ℕ → ℕ → Mark
marked up retired n = mark_of (has_node up n) (has_node retired n)

-- the marks of the numbers below a count
abbrev pub listed : ℕ → ℕ → ℕ → List Mark
listed up retired count = map (marked up retired) (range_with_len 0 count)

-- what is up or retired is below the count, and no number is both
pub record Marking (up retired count : ℕ) : Type 0 where
  pub few : count ≤ 32
  pub up_word : up < 2 ^ 32
  pub retired_word : retired < 2 ^ 32
  pub up_below : (n : ℕ) → count ≤ n → has_node up n ≡ false
  pub retired_below : (n : ℕ) → count ≤ n → has_node retired n ≡ false
  pub apart : (n : ℕ) → (has_node up n && has_node retired n) ≡ false

-- the word of the marks that pass a test
unfoldable pub word : (Mark → Bool) → List Mark → ℕ
word test [] = 0
word test (m ∷ ms) = cond (test m) 1 0 + 2 * word test ms

lowest : (b : Bool) (w : ℕ) → ((cond b 1 0 + 2 * w) % 2 == 1) ≡ b
lowest true w = ap (λ x. x == 1) odd
  where
    odd : (1 + 2 * w) % 2 ≡ 1
    odd = omega arith
lowest false w = ap (λ x. x == 1) even
  where
    even : (0 + 2 * w) % 2 ≡ 0
    even = omega arith

others : (b : Bool) (w : ℕ) → (cond b 1 0 + 2 * w) / 2 ≡ w
others true w = omega arith
others false w = omega arith

bit_of_word : (test : Mark → Bool) → test Down ≡ false → (l : List Mark) (n : ℕ) → (bit_at (word test l) n == 1) ≡ test (get_or l n Down)
unfolding word
bit_of_word test none [] n = ap (λ x. x == 1) (bit_at-zero n) ∙ sym none
bit_of_word test none (m ∷ ms) zero = ap (λ x. x == 1) (bit_at_lowest (word test (m ∷ ms))) ∙ lowest (test m) (word test ms)
bit_of_word test none (m ∷ ms) (suc n) =
    ap (λ x. x == 1) (bit_at-suc (word test (m ∷ ms)) n ∙ ap (λ w. bit_at w n) (others (test m) (word test ms))) ∙ bit_of_word test none ms n

twice : (b : Bool) (w k : ℕ) → w < 2 ^ k → cond b 1 0 + 2 * w < 2 ^ suc k
twice true w k h = omega (arith, pow-suc 2 k)
twice false w k h = omega (arith, pow-suc 2 k)

word_small : (test : Mark → Bool) (l : List Mark) (k : ℕ) → length l ≤ k → word test l < 2 ^ k
unfolding word
word_small test [] zero h = omega arith
word_small test [] (suc k) h = twice false 0 k (word_small test [] k (omega arith))
word_small test (m ∷ ms) zero h = absurd (omega arith)
word_small test (m ∷ ms) (suc k) h = twice (test m) (word test ms) k (word_small test ms k (omega arith))

has_word : (test : Mark → Bool) → test Down ≡ false → (l : List Mark) (n : ℕ) → n < 32 → has_node (word test l) n ≡ test (get_or l n Down)
unfolding has_node
has_word test none l n h =
    let inside : nat_lt n 32 ≡ true = grind (arith, nat_tests) in
    ap (λ t. t && bit_at (word test l) n == 1) inside ∙ bit_of_word test none l n

-- the mark of each number
pub listed_at : (up retired count n : ℕ) → Marking up retired count → get_or (listed up retired count) n Down ≡ marked up retired n
listed_at up retired count n h = elim (cases_lt n count) [
  | inl below ↦ get_or-map-range_with_len (marked up retired) 0 count n n Down below (omega arith)
  | inr past ↦
      get_or_past (listed up retired count) n Down (omega (arith, past, length-map-range_with_len (marked up retired) 0 count))
      ∙ sym (ap₂ mark_of (h.up_below n (omega (arith, past))) (h.retired_below n (omega (arith, past))))
]

up_of : (a b : Bool) → is_up (mark_of a b) ≡ a
up_of true b = refl
up_of false true = refl
up_of false false = refl

retired_of : (a b : Bool) → (a && b) ≡ false → is_retired (mark_of a b) ≡ b
retired_of true true h = absurd (false≢true (sym h))
retired_of true false h = refl
retired_of false true h = refl
retired_of false false h = refl

-- the words and the count are those of the marks
pub same_count : (up retired count : ℕ) → length (listed up retired count) ≡ count
same_count up retired count = length-map-range_with_len (marked up retired) 0 count

pub same_up : (up retired count : ℕ) → Marking up retired count → word is_up (listed up retired count) ≡ up
same_up up retired count h =
    same_members _ up (word_small is_up (listed up retired count) 32 (omega (arith, h.few, same_count up retired count))) h.up_word
    (λ n k. has_word is_up refl (listed up retired count) n k ∙ ap is_up (listed_at up retired count n h) ∙ up_of (has_node up n) (has_node retired n))

pub same_retired : (up retired count : ℕ) → Marking up retired count → word is_retired (listed up retired count) ≡ retired
same_retired up retired count h =
    same_members _ retired (word_small is_retired (listed up retired count) 32 (omega (arith, h.few, same_count up retired count))) h.retired_word
    (λ n k. has_word is_retired refl (listed up retired count) n k ∙ ap is_retired (listed_at up retired count n h) ∙ retired_of (has_node up n) (has_node retired n) (h.apart n))

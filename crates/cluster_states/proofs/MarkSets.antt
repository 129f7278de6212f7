-- Marks after a change of their words.
use Rattle.std.proofs.Common.{◌≡◌, ◌==◌, ◌&&◌, ◌||◌, ℕ, zero, suc, ◌+◌, ◌-◌, ◌^◌, ◌%◌, ◌*◌, ◌<◌, ◌≤◌, Bool, true, false, cond, nat_lt, nat_eq, List, [], ◌∷◌, length, get_or, set, replicate, inl, inr, refl, sym, ap, ap₂, ◌∙◌, arith, eq-eqb}
use Rattle.std.specs.List.{count_by}
use Rattle.std.specs.Int.{bit_at}
use Rattle.std.proofs.lemmas.Bool.{cases_lt, cases_eq}
use Rattle.std.proofs.lemmas.Bool.Decides.{nat_tests}
use Rattle.std.proofs.lemmas.Nat.{one_shl}
use Rattle.std.proofs.lemmas.Nat.Bits.{bit_at_ones, bit_at_ones_above}
use Rattle.std.proofs.lemmas.List.{length-set, get_or-set_same, get_or-set_other, length-replicate, get_or-replicate}
use Rattle.std.proofs.lemmas.List.FromFn.{get_or-map-range_with_len, fill_by_all, sum_by-map-range_with_len_more}
use Rattle.node_sets.specs.Members.{has_node, size_below, size_of}
use Rattle.node_sets.proofs.Bits.{size_whole}
use Rattle.cluster_states.specs.declared.marks.Mark.{Mark}
use Rattle.cluster_states.specs.declared.marks.Mark.TheVariants.{Up, Down, Retired}
use Rattle.cluster_states.specs.MarkTests.{is_up, counts}
use Rattle.cluster_states.specs.MarkWords.{is_retired, mark_of, marked, listed, word, Marking, same_count, same_up, same_retired}

-- the lowest bits
pub has_below : (count n : ℕ) → count ≤ 32 → has_node (1 * 2 ^ count % 2 ^ 64 - 1) n ≡ nat_lt n count
unfolding has_node
has_below count n few = rw (one_shl count 64 (omega arith)) (elim (cases_lt n count) [
  | inl below ↦
      let inside : nat_lt n 32 ≡ true = grind (arith, nat_tests) in
      let is : nat_lt n count ≡ true = grind (arith, nat_tests) in
      ap (λ t. t && bit_at (2 ^ count - 1) n == 1) inside ∙ ap (λ x. x == 1) (bit_at_ones count n below) ∙ sym is
  | inr past ↦
      let not : nat_lt n count ≡ false = grind (arith, nat_tests) in
      ap (λ x. nat_lt n 32 && x == 1) (bit_at_ones_above count n (omega (arith, past))) ∙ neither (nat_lt n 32) ∙ sym not
])
  where
    neither : (t : Bool) → (t && false) ≡ false
    neither true = refl
    neither false = refl

pub none_past : (count n : ℕ) → count ≤ n → nat_lt n count ≡ false
none_past count n h = grind (arith, nat_tests)

pub none_in_both : (a b : Bool) → b ≡ false → (a && b) ≡ false
none_in_both true b h = h
none_in_both false b h = refl

pub all_listed : (up count : ℕ) → ((n : ℕ) → has_node up n ≡ nat_lt n count) → listed up 0 count ≡ replicate count Up
all_listed up count is =
    sym (fill_by_all (marked up 0) (replicate count Up) count Down (length-replicate count Up)
    (λ n below. get_or-replicate count n Up Down below ∙ sym (ap (λ t. mark_of t (has_node 0 n)) (is n ∙ within n count below))))
  where
    within : (n count : ℕ) → n < count → nat_lt n count ≡ true
    within n count h = grind (arith, nat_tests)

pub mark_is : (m : Mark) → mark_of (is_up m) (is_retired m) ≡ m
mark_is Up = refl
mark_is Down = refl
mark_is Retired = refl

-- one mark is another
pub set_listed : (up retired up' retired' count node : ℕ) (m : Mark) → node < count
    → ((n : ℕ) → has_node up' n ≡ cond (n == node) (is_up m) (has_node up n))
    → ((n : ℕ) → has_node retired' n ≡ cond (n == node) (is_retired m) (has_node retired n))
    → listed up' retired' count ≡ set (listed up retired count) node m
set_listed up retired up' retired' count node m within ups downs =
    sym (fill_by_all (marked up' retired') (set (listed up retired count) node m) count Down (length-set (listed up retired count) node m ∙ same_count up retired count)
    (λ n below. elim (cases_eq n node) [
      | inl same ↦
          let is : (n == node) ≡ true = eq-eqb n node same in
          ap (λ k. get_or (set (listed up retired count) node m) k Down) same
          ∙ get_or-set_same (listed up retired count) node m Down (omega (arith, within, same_count up retired count))
          ∙ sym (ap₂ mark_of (ups n ∙ ap (λ t. cond t (is_up m) (has_node up n)) is) (downs n ∙ ap (λ t. cond t (is_retired m) (has_node retired n)) is) ∙ mark_is m)
      | inr other ↦
          let not : (n == node) ≡ false = grind (arith, nat_tests) in
          get_or-set_other (listed up retired count) node n m Down other
          ∙ get_or-map-range_with_len (marked up retired) 0 count n n Down below (omega arith)
          ∙ sym (ap₂ mark_of (ups n ∙ ap (λ t. cond t (is_up m) (has_node up n)) not) (downs n ∙ ap (λ t. cond t (is_retired m) (has_node retired n)) not))
    ]))

pub set_past : (l : List Mark) (n : ℕ) (m : Mark) → length l ≤ n → set l n m ≡ l
set_past [] n m h = refl
set_past (x ∷ xs) zero m h = absurd (omega arith)
set_past (x ∷ xs) (suc n) m h = ap (λ r. x ∷ r) (set_past xs n m (omega arith))

-- how many are up
up_counts : (a b : Bool) → ◌≡◌ {A = ℕ} (cond a 1 0) (cond (is_up (mark_of a b)) 1 0)
up_counts true b = refl
up_counts false true = refl
up_counts false false = refl

up_listed : (up retired count : ℕ) → size_below up count ≡ count_by is_up (listed up retired count)
unfolding size_below
up_listed up retired zero = refl
up_listed up retired (suc n) =
    let on : n + 1 ≡ suc n = omega arith in
    ap₂ (λ a b. a + b) (up_listed up retired n) (up_counts (has_node up n) (has_node retired n))
    ∙ sym (sum_by-map-range_with_len_more (λ m. cond (is_up m) 1 0) (marked up retired) 0 n n (omega arith))
    ∙ ap (λ k. count_by is_up (listed up retired k)) on

none_above : (up count more : ℕ) → ((n : ℕ) → count ≤ n → has_node up n ≡ false) → size_below up (more + count) ≡ size_below up count
unfolding size_below
none_above up count zero none = ap (size_below up) (all count)
  where
    all : (k : ℕ) → 0 + k ≡ k
    all k = omega arith
none_above up count (suc more) none =
    ap (size_below up) (on more count)
    ∙ ap (λ t. size_below up (more + count) + cond t 1 0) (none (more + count) (omega arith))
    ∙ plus_none (size_below up (more + count)) ∙ none_above up count more none
  where
    plus_none : (x : ℕ) → x + 0 ≡ x
    plus_none x = omega arith

    on : (m k : ℕ) → suc m + k ≡ suc (m + k)
    on m k = omega arith

pub up_size : (up retired count : ℕ) → Marking up retired count → size_of up ≡ count_by is_up (listed up retired count)
up_size up retired count h =
    let few = h.few in
    let all : 32 ≡ (32 - count) + count = omega (arith, few) in
    size_whole up ∙ ap (size_below up) all ∙ none_above up count (32 - count) h.up_below ∙ up_listed up retired count

-- what counts
pub either_counts : (a b : Bool) → (a || b) ≡ counts true (mark_of a b)
either_counts true b = refl
either_counts false true = refl
either_counts false false = refl

pub up_alone_counts : (a b : Bool) → a ≡ counts false (mark_of a b)
up_alone_counts true b = refl
up_alone_counts false true = refl
up_alone_counts false false = refl

-- marks with the same words and count are the same
grouped : (a b c : Bool) → ((a && b) && c) ≡ (a && (b && c))
grouped true b c = refl
grouped false b c = refl

pub same_fields : {up retired count up' retired' count' : ℕ} {l k : List Mark} {ups both all : Bool}
    → ups ≡ nat_eq up up' → both ≡ (ups && nat_eq retired retired') → all ≡ (both && nat_eq count count')
    → listed up retired count ≡ l → listed up' retired' count' ≡ k → Marking up retired count → Marking up' retired' count'
    → all ≡ (nat_eq (word is_up l) (word is_up k) && (nat_eq (word is_retired l) (word is_retired k) && nat_eq (length l) (length k)))
same_fields {up} {retired} {count} {up'} {retired'} {count'} first second third one other h h' =
    rw (← one, ← other, same_up up retired count h, same_up up' retired' count' h', same_retired up retired count h, same_retired up' retired' count' h', same_count up retired count, same_count up' retired' count')
    (third ∙ ap (λ t. t && nat_eq count count') (second ∙ ap (λ t. t && nat_eq retired retired') first) ∙ grouped (nat_eq up up') (nat_eq retired retired') (nat_eq count count'))

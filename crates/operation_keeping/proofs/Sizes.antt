-- How many nodes a set has: no fewer than one within it, or than a ranked list of its members.
use Rattle.std.proofs.Common.{◌≡◌, ℕ, zero, suc, ◌+◌, ◌<◌, ◌≤◌, Bool, true, false, cond, not, ◌&&◌, List, [], ◌∷◌, length, inl, inr, refl, subst, arith, eqb}
use Rattle.std.proofs.lemmas.Bool.{cases_order, eqb-true, and_from}
use Rattle.std.proofs.lemmas.Bool.Decides.{nat_tests}
use Rattle.node_sets.specs.Members.{has_node, size_below, size_of, Within}
use Rattle.node_sets.proofs.Bits.{size_whole}
use Rattle.ideal_nodes.specs.Scores.{IsRanked, Has}
use Rattle.ideal_nodes.proofs.Orders.{IsOrder}
use Rattle.ideal_nodes.proofs.Firsts.{member_small}
use Rattle.op_machine.specs.Nodes.{count_below, count_nodes}
use Rattle.op_machine.proofs.NodeLaws.{size_of-count}

one-most : (t u : Bool) → (t ≡ true → u ≡ true) → cond t 1 0 ≤ cond u 1 0
one-most true true h = omega arith
one-most true false h = let z = h refl in cc
one-most false true h = omega arith
one-most false false h = omega arith

-- ---- sets

below-grows : (set n k : ℕ) → n ≤ k → size_below set n ≤ size_below set k
unfolding size_below
below-grows set n zero h = let z : n ≡ 0 = omega arith in rw z (omega arith)
below-grows set n (suc k) h = elim (cases_order n (suc k)) [
  | inl same ↦ rw same (omega arith)
  | inr other ↦ elim other [
    | inl less ↦ (let i = below-grows set n k (omega arith) in omega arith)
    | inr more ↦ absurd (omega arith)
  ]
]

-- a member has fewer before it than the set has
pub member-place : (set n : ℕ) → has_node set n ≡ true → size_below set n < size_of set
unfolding size_below
member-place set n h =
    let small = member_small set n h in
    let more = below-grows set (suc n) 32 (omega arith) in
    let one : size_below set (suc n) ≡ size_below set n + 1 = rw h refl in
    let whole = size_whole set in
    omega arith

within-below : (a b k : ℕ) → Within a b → size_below a k ≤ size_below b k
unfolding size_below
within-below a b zero w = omega arith
within-below a b (suc k) w = let i = within-below a b k w in let j = one-most (has_node a k) (has_node b k) (w k) in omega arith

pub within-size : (a b : ℕ) → Within a b → size_of a ≤ size_of b
within-size a b w = let i = within-below a b 32 w in let x = size_whole a in let y = size_whole b in omega arith

-- ---- lists

subset-count : (p q : ℕ → Bool) (k : ℕ) → ((n : ℕ) → p n ≡ true → q n ≡ true) → count_below p k ≤ count_below q k
unfolding count_below
subset-count p q zero h = omega arith
subset-count p q (suc k) h = let i = subset-count p q k h in let j = one-most (p k) (q k) (h k) in omega arith

-- all but one
abbrev but : ℕ → (ℕ → Bool) → ℕ → Bool
but n p m = p m && not (eqb m n)

but-less : (n : ℕ) (p : ℕ → Bool) (m : ℕ) → but n p m ≡ true → p m ≡ true
but-less n p m h = by_test (p m) h
  where
    by_test : (t : Bool) → (t && not (eqb m n)) ≡ true → t ≡ true
    by_test true h = refl
    by_test false h = h

but-itself : (n : ℕ) (p : ℕ → Bool) → but n p n ≡ false
but-itself n p = grind (arith, nat_tests)

remove-count : (p : ℕ → Bool) (n k : ℕ) → p n ≡ true → n < k → count_below (but n p) k + 1 ≤ count_below p k
unfolding count_below
remove-count p n zero h lt = absurd (omega arith)
remove-count p n (suc k) h lt = elim (cases_order n k) [
  | inl same ↦ (let i = subset-count (but n p) p k (but-less n p) in
      let here : p k ≡ true = subst (λ (x : ℕ). p x ≡ true) same h in
      let gone : but n p k ≡ false = subst (λ (x : ℕ). but n p x ≡ false) same (but-itself n p) in
      rw (gone, here) (omega arith))
  | inr other ↦ elim other [
    | inl less ↦ (let i = remove-count p n k h less in let j = one-most (but n p k) (p k) (but-less n p k) in omega arith)
    | inr more ↦ absurd (omega arith)
  ]
]

ranked-count : (before : ℕ → ℕ → Type 0) → IsOrder before → (ns : List ℕ) (p : ℕ → Bool) → IsRanked before ns → ((n : ℕ) → Has n ns → p n ≡ true) → ((n : ℕ) → p n ≡ true → n < 32) → length ns ≤ count_below p 32
ranked-count before o [] p r h small = omega arith
ranked-count before o (n ∷ ns) p r h small =
    let here = h n (inl refl) in
    let i = ranked-count before o ns (but n p) r.1 (λ m has. and_from (p m) (not (eqb m n)) (h m (inr has)) (apart m has (eqb m n) refl)) (λ m q. small m (but-less n p m q)) in
    let j = remove-count p n 32 here (small n here) in
    omega arith
  where
    apart : (m : ℕ) → Has m ns → (t : Bool) → eqb m n ≡ t → not t ≡ true
    apart m has true e = absurd (o.never n (subst (before n) (eqb-true m n e) (r.0 m has)))
    apart m has false e = refl

-- a ranked list of members
pub ranked-size : (before : ℕ → ℕ → Type 0) → IsOrder before → (ns : List ℕ) (set : ℕ) → IsRanked before ns → ((n : ℕ) → Has n ns → has_node set n ≡ true) → length ns ≤ size_of set
unfolding count_nodes
ranked-size before o ns set r h =
    let i = ranked-count before o ns (has_node set) r h (member_small set) in
    let z : size_of set ≡ count_below (has_node set) 32 = size_of-count set (has_node set) (λ n. refl) in
    omega arith

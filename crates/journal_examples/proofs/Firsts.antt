-- Which of the two nodes comes first in a bucket's ideal order: their scores are worked out here.
use Rattle.std.proofs.Common.{◌≡◌, ◌↔◌, ℕ, true, false, List, [], ◌∷◌, Option, Some, None, refl, sym, ◌∙◌, subst, arith, inl, inr, ◌⊎◌}
use Rattle.std.specs.Prelude.{take}
use Rattle.md5.specs.Md5.{block_words, rounds, compress, hash_after, digest_bytes, md5}
use Rattle.node_sets.specs.Members.{has_node}
use Rattle.cluster_states.specs.declared.cluster_state.ClusterState.{ClusterState}
use Rattle.ideal_nodes.specs.Scores.{score_of, Has}
use Rattle.ideal_nodes.specs.Placement.{rank_of, Precedes, IsIdeal}
use Rattle.ideal_nodes.proofs.Orders.{precedes_are_order}
use Rattle.lane_journals.specs.Buckets.{Bucket, contains}
use Rattle.lane_journals.specs.Readers.{active, complete}
use Rattle.lane_journals.specs.Meanings.{nodes, history}
use Rattle.lane_journals.specs.Places.{Setting, state_in, IsTarget, IsFirstMember}
use Rattle.lane_journals.specs.declared.event.LaneEvent.{LaneEvent}
use Rattle.journal_examples.specs.Lives.{lane, setting, state_one}
use Rattle.journal_examples.specs.WrongSteps.{whole, half, one_copy}
use Rattle.journal_examples.proofs.LifeFacts.{ArePair, straight, turned, ideal_pair, zero_in, one_first, has_one_0, two_last, has_two_1}

-- ---- the order of the two nodes

pub lane-order : Precedes lane state_one 0 1
unfolding rank_of score_of block_words rounds compress hash_after digest_bytes md5
lane-order =
    let first : rank_of lane state_one 0 ≡ 0 = refl in
    let second : rank_of lane state_one 1 ≡ 1 = refl in
    inl (omega (arith, first, second))

whole-order : Precedes whole state_one 0 1
unfolding rank_of score_of block_words rounds compress hash_after digest_bytes md5
whole-order =
    let first : rank_of whole state_one 0 ≡ 0 = refl in
    let second : rank_of whole state_one 1 ≡ 1 = refl in
    inl (omega (arith, first, second))

-- in the second half it is the other way round
half-order : Precedes half state_one 1 0
unfolding rank_of score_of block_words rounds compress hash_after digest_bytes md5
half-order =
    let first : rank_of half state_one 1 ≡ 0 = refl in
    let second : rank_of half state_one 0 ≡ 1 = refl in
    inl (omega (arith, first, second))

-- ---- the first member

pub first-ideal : (S : Setting) (J : List LaneEvent) → state_in 1 J ≡ Some state_one → (b : Bucket) → Precedes b state_one 0 1 → IsFirstMember S J 1 b 0
first-ideal S J s b order = record { state = state_one; published = s; ideal = 0 ∷ 1 ∷ []; is_ideal = ideal_pair b 0 1 straight order; listed = inl refl; first = λ m h k. first m h }
  where
    first : (m : ℕ) → Has m (0 ∷ 1 ∷ []) → (m ≡ 0) ⊎ Precedes b state_one 0 m
    first m (inl is) = inl is
    first m (inr (inl is)) = inr (subst (λ (i : ℕ). Precedes b state_one 0 i) (sym is) order)
    first m (inr (inr h)) = absurd h

-- where node 0 is no member
pub only-member : (J : List LaneEvent) → state_in 1 J ≡ Some state_one → complete 1 0 0 (history J) ≡ false → IsFirstMember setting J 1 lane 1
only-member J s none = record { state = state_one; published = s; ideal = 0 ∷ 1 ∷ []; is_ideal = ideal_pair lane 0 1 straight lane-order; listed = inr (inl refl); first = λ m h k. first m h (k 0 zero_in) }
  where
    first : (m : ℕ) → Has m (0 ∷ 1 ∷ []) → complete 1 m 0 (history J) ≡ true → (m ≡ 1) ⊎ Precedes lane state_one 1 m
    first m (inl is) k = (let here : complete 1 0 0 (history J) ≡ true = subst (λ (i : ℕ). complete 1 i 0 (history J) ≡ true) is k in absurd (let z : true ≡ false = sym here ∙ none in cc))
    first m (inr (inl is)) k = inl is
    first m (inr (inr h)) k = absurd h

-- ---- the one target of a bucket where there is to be one copy

-- an ideal order begins with the first of the two
first-alone : (b : Bucket) (m n : ℕ) → ArePair m n → Precedes b state_one m n → (ideal : List ℕ) → IsIdeal b state_one ideal → (k : ℕ) → Has k (take 1 ideal) → k ≡ m
first-alone b m n pair order [] is k h = absurd h
first-alone b m n pair order (x ∷ xs) is k (inr h) = absurd h
first-alone b m n pair order (x ∷ xs) is k (inl at) = elim ((pair x).0 ((is.members x).1 (inl refl))) [
  | inl same ↦ at ∙ same
  | inr other ↦ by_place other ((is.members m).0 ((pair m).1 (inl refl)))
]
  where
    by_place : x ≡ n → Has m (x ∷ xs) → k ≡ m
    by_place other (inl first) = at ∙ sym first
    by_place other (inr behind) =
        let back : Precedes b state_one n m = subst (λ (i : ℕ). Precedes b state_one i m) other ((is.ranked).0 m behind) in
        absurd ((precedes_are_order b state_one).once m n order back)

one-target : (J : List LaneEvent) → state_in 1 J ≡ Some state_one → ((key : ℕ) → active 1 key (history J) ≡ None)
    → (b : Bucket) (m n : ℕ) → ArePair m n → Precedes b state_one m n → (key : ℕ) → contains b key ≡ true → (k : ℕ) → IsTarget one_copy J 1 b k → k ≡ m
one-target J s none b m n pair order key inside k (inl a) =
    let same : a.state ≡ state_one = (let x = a.published in cc) in
    first-alone b m n pair order a.ideal (subst (λ (x : ClusterState). IsIdeal b x a.ideal) same a.is_ideal) k a.among
one-target J s none b m n pair order key inside k (inr a) = let x = a key inside in let y = none key in absurd (let z : ◌≡◌ {A = Option ℕ} None (Some k) = sym y ∙ x in cc)

is-target : (J : List LaneEvent) → state_in 1 J ≡ Some state_one → (b : Bucket) (m n : ℕ) → ArePair m n → Precedes b state_one m n → IsTarget one_copy J 1 b m
is-target J s b m n pair order = inl (record { state = state_one; published = s; ideal = m ∷ n ∷ []; is_ideal = ideal_pair b m n pair order; among = inl refl })

pub three_in : contains whole 3 ≡ true
unfolding contains
three_in = refl

three-half : contains half 3 ≡ true
unfolding contains
three-half = refl

module _ (J : List LaneEvent) (s : state_in 1 J ≡ Some state_one) (none : (key : ℕ) → active 1 key (history J) ≡ None) where
  pub receive_whole : (n : ℕ) → (has_node 1 n ≡ true) ↔ IsTarget one_copy J 1 whole n
  receive_whole n = (
    λ h. subst (λ (i : ℕ). IsTarget one_copy J 1 whole i) (sym (one_first n h)) (is-target J s whole 0 1 straight whole-order),
    λ t. subst (λ (i : ℕ). nodes 1 i ≡ true) (sym (one-target J s none whole 0 1 straight whole-order 3 three_in n t)) has_one_0,
  )

  pub receive_half : (n : ℕ) → (has_node 2 n ≡ true) ↔ IsTarget one_copy J 1 half n
  receive_half n = (
    λ h. subst (λ (i : ℕ). IsTarget one_copy J 1 half i) (sym (two_last n h)) (is-target J s half 1 0 turned half-order),
    λ t. subst (λ (i : ℕ). nodes 2 i ≡ true) (sym (one-target J s none half 1 0 turned half-order 3 three-half n t)) has_two_1,
  )

  pub not-whole : IsTarget one_copy J 1 whole 1 → ⊥
  not-whole t = let x = one-target J s none whole 0 1 straight whole-order 3 three_in 1 t in omega (arith, x)

  pub not-half : IsTarget one_copy J 1 half 0 → ⊥
  not-half t = let x = one-target J s none half 1 0 turned half-order 3 three-half 0 t in omega (arith, x)

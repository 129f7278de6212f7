-- Ranks in a group, and in which groups the first nodes of the ideal order lie.
use Rattle.std.proofs.Common.{◌≡◌, ◌&&◌, ◌||◌, ℕ, zero, suc, ◌%◌, ◌<◌, ◌≤◌, Bool, true, false, List, [], ◌∷◌, length, take, get_or, slice_index_or, nat_eq, codes, inl, inr, refl, sym, ap, ◌∙◌, subst, arith}
use Rattle.std.proofs.lemmas.Bool.{cases_lt, cases_eq}
use Rattle.std.proofs.lemmas.Bool.Decides.{nat_tests}
use Rattle.std.proofs.lemmas.List.{length-take}
use Rattle.proof_basics.proofs.Tests.{both, or_left, or_right, and_true, is_false, false_true}
use Rattle.proof_basics.proofs.Numbers.{lt-of}
use Rattle.bucket_ids.specs.Buckets.{Low}
use Rattle.cluster_states.specs.ClusterStates.{group_of}
use Rattle.cluster_states.specs.MarkTests.{is_up}
use Rattle.cluster_states.specs.Publishing.{how_many}
use Rattle.cluster_states.specs.declared.marks.Mark.{Mark}
use Rattle.cluster_states.specs.declared.marks.Mark.TheVariants.{Down}
use Rattle.cluster_states.specs.declared.cluster_state.ClusterState.{ClusterState}
use Rattle.ideal_nodes.specs.Scores.{score_of, Ranks, IsRanked, Has}
use Rattle.ideal_nodes.specs.Placement.{node_up, goes_ahead, rank_of, Precedes, IsIdeal, group_up, groups_up, LieApart}
use Rattle.ideal_nodes.proofs.Orders.{ranks_test, test_ranks, ranks_on, ranks_never, ranks_are_order}
use Rattle.ideal_nodes.proofs.Counts.{how_many_less, how_many_more, how_many_or, how_many_none, how_many_one, how_many_some}
use Rattle.ideal_nodes.proofs.Picks.{ranked_same}
use Rattle.ideal_nodes.proofs.Places.{IsAt, place_of, has_at, has_taken_at, ranked_at}

is_same : (x y : ℕ) → nat_eq x y ≡ true → x ≡ y
is_same x y e = grind (arith, nat_tests, e)

same_is : (x y : ℕ) → x ≡ y → nat_eq x y ≡ true
same_is x y e = grind (arith, nat_tests, e)

pub up_below : (ms : List Mark) (n : ℕ) → is_up (slice_index_or ms n Down) ≡ true → n < length ms
up_below [] n h = absurd (false_true h)
up_below (m ∷ ms) zero h = omega arith
up_below (m ∷ ms) (suc n) h = omega (arith, up_below ms n h)

-- ---- ranks

module _ (bucket : Low) (s : ClusterState) where
  abbrev score : ℕ → ℕ
  score = score_of (codes "ideal") bucket

  -- a node that is up is counted by those of its group behind it
  ahead_is : (n m : ℕ) → node_up s m ≡ true → group_of s m ≡ group_of s n → Ranks score m n → goes_ahead bucket s n m ≡ true
  ahead_is n m up group ranks = and_true _ _ up (and_true _ _ (same_is _ _ group) (test_ranks score m n ranks))

  -- what goes ahead of a node
  record Ahead (n m : ℕ) : Type 0 where
    up : node_up s m ≡ true
    group : group_of s m ≡ group_of s n
    ranks : Ranks score m n

  is_ahead : (n m : ℕ) → goes_ahead bucket s n m ≡ true → Ahead n m
  is_ahead n m h =
      let a = both _ _ h in
      let b = both _ _ a.1 in
      record { up = a.0; group = is_same _ _ b.0; ranks = ranks_test score m n b.1 }

  pub rank_grows : (m n : ℕ) → node_up s m ≡ true → group_of s m ≡ group_of s n → Ranks score m n → rank_of bucket s m < rank_of bucket s n
  unfolding rank_of
  rank_grows m n up group ranks = how_many_more (goes_ahead bucket s m) (goes_ahead bucket s n) (length s.nodes) m
      (λ i lt h. (let a = is_ahead m i h in ahead_is n i a.up (a.group ∙ group) (ranks_on score i m n a.ranks ranks)))
      (up_below s.nodes m up)
      (is_false _ (λ h. ranks_never score m (is_ahead m m h).ranks))
      (ahead_is n m up group ranks)

  -- in one group the score decides
  pub precedes_in_group : (a b : ℕ) → node_up s a ≡ true → node_up s b ≡ true → group_of s a ≡ group_of s b → Precedes bucket s a b
      → (rank_of bucket s a < rank_of bucket s b) × Ranks score a b
  precedes_in_group a b here there group (inl less) = (
    less,
    elim (cases_eq a b) [
      | inl same ↦ absurd (omega (arith, less, ap (rank_of bucket s) same))
      | inr other ↦ elim ((ranks_are_order score).either a b other) [
        | inl ranks ↦ ranks
        | inr back ↦ absurd (omega (arith, less, rank_grows b a there (sym group) back))
      ]
    ],
  )
  precedes_in_group a b here there group (inr tie) = absurd (omega (arith, tie.0, rank_grows a b here group tie.1))

  -- the best of a node's group
  record Best (n : ℕ) : Type 0 where
    node : ℕ
    up : node_up s node ≡ true
    group : group_of s node ≡ group_of s n
    first : rank_of bucket s node ≡ 0

  best_of : (most n : ℕ) → rank_of bucket s n ≤ most → node_up s n ≡ true → Best n
  unfolding rank_of
  best_of zero n le up = record { node = n; up = up; group = refl; first = omega arith }
  best_of (suc most) n le up = elim (cases_lt 0 (rank_of bucket s n)) [
    | inl some ↦ (
        let p = how_many_some (goes_ahead bucket s n) (length s.nodes) some in
        let a = is_ahead n p.number p.passes in
        let b = best_of most p.number (omega (arith, le, rank_grows p.number n a.up a.group a.ranks)) a.up in
        record { node = b.node; up = b.up; group = b.group ∙ a.group; first = b.first })
    | inr none ↦ record { node = n; up = up; group = refl; first = omega arith }
  ]

-- where all lie in one group, the list is ranked by score
pub ranked_by_score : (bucket : Low) (s : ClusterState) (nodes : List ℕ) → s.groups ≡ 1 → IsIdeal bucket s nodes → IsRanked (Ranks (score_of (codes "ideal") bucket)) nodes
ranked_by_score bucket s nodes one is = ranked_same (Precedes bucket s) (Ranks (score_of (codes "ideal") bucket)) nodes
    (λ a b p q h. (precedes_in_group bucket s a b ((is.members a).1 p) ((is.members b).1 q) (zero a ∙ sym (zero b)) h).1) is.ranked
  where
    zero : (n : ℕ) → group_of s n ≡ 0
    zero n = ap (λ g. n % g) one ∙ omega arith

-- ---- a list has at least as many nodes as groups

abbrev hit : (ℕ → ℕ) → List ℕ → ℕ → Bool
hit f [] x = false
hit f (n ∷ ns) x = nat_eq (f n) x || hit f ns x

hit_has : (f : ℕ → ℕ) (ns : List ℕ) (n x : ℕ) → Has n ns → f n ≡ x → hit f ns x ≡ true
hit_has f [] n x has is = absurd has
hit_has f (m ∷ ns) n x (inl same) is = or_left _ _ (same_is (f m) x (ap f (sym same) ∙ is))
hit_has f (m ∷ ns) n x (inr later) is = or_right _ _ (hit_has f ns n x later is)

hits_few : (f : ℕ → ℕ) (ns : List ℕ) (k : ℕ) → how_many (hit f ns) k ≤ length ns
hits_few f [] k = omega (arith, how_many_none (hit f []) k (λ i lt. refl))
hits_few f (n ∷ ns) k = omega (arith, how_many_or (λ x. nat_eq (f n) x) (hit f ns) k, how_many_one (f n) k, hits_few f ns k)

-- a node of a list with this image
record From (f : ℕ → ℕ) (ns : List ℕ) (x : ℕ) : Type 0 where
  node : ℕ
  has : Has node ns
  is : f node ≡ x

few_images : (p : ℕ → Bool) (f : ℕ → ℕ) (ns : List ℕ) (k : ℕ) → ((x : ℕ) → p x ≡ true → From f ns x) → how_many p k ≤ length ns
few_images p f ns k all =
    omega (arith, how_many_less p (hit f ns) k (λ x lt h. (let w = all x h in hit_has f ns w.node x w.has w.is)), hits_few f ns k)

-- ---- the first nodes

module _ (bucket : Low) (s : ClusterState) (ns : List ℕ) (is : IsIdeal bucket s ns) where
  -- a node of a group
  record InGroup (group : ℕ) : Type 0 where
    node : ℕ
    up : node_up s node ≡ true
    is_in : group_of s node ≡ group

  in_group : (group : ℕ) → group_up s group ≡ true → InGroup group
  in_group group h =
      let p = how_many_some (λ n. node_up s n && nat_eq (group_of s n) group) (length s.nodes) (lt-of 0 _ h) in
      let b = both _ _ p.passes in
      record { node = p.number; up = b.0; is_in = is_same _ _ b.1 }

  many : groups_up s ≤ length ns
  many = few_images (group_up s) (group_of s) ns s.groups (λ g h. (let w = in_group g h in record { node = w.node; has = (is.members w.node).0 w.up; is = w.is_in }))

  -- where a node has another of its group before it, each group has a node before it
  all_before : (i j : ℕ) → i < j → j < length ns → group_of s (get_or ns i 0) ≡ group_of s (get_or ns j 0) → groups_up s ≤ j
  all_before i j lt within same =
      omega (arith, few_images (group_up s) (group_of s) (take j ns) s.groups (λ g h. found g (in_group g h)), length-take j ns)
    where
      up_at : (k : ℕ) → k < length ns → node_up s (get_or ns k 0) ≡ true
      up_at k below = (is.members (get_or ns k 0)).1 (has_at ns k 0 below)

      grows : rank_of bucket s (get_or ns i 0) < rank_of bucket s (get_or ns j 0)
      grows = (precedes_in_group bucket s (get_or ns i 0) (get_or ns j 0) (up_at i (omega arith)) (up_at j within) same (ranked_at (Precedes bucket s) ns i j is.ranked lt within)).0

      found : (g : ℕ) → InGroup g → From (group_of s) (take j ns) g
      found g w =
          let b = best_of bucket s (rank_of bucket s w.node) w.node (omega arith) w.up in
          let there = place_of ns b.node ((is.members b.node).0 b.up) in
          record {
            node = b.node;
            has = subst (λ n. Has n (take j ns)) there.is (has_taken_at ns there.place j (before b.first there) there.within);
            is = b.group ∙ w.is_in;
          }
        where
          before : {n : ℕ} → rank_of bucket s n ≡ 0 → (there : IsAt ns n) → there.place < j
          before first there = elim (cases_lt there.place j) [
            | inl less ↦ less
            | inr past ↦ elim (cases_eq there.place j) [
              | inl here ↦ absurd (omega (arith, grows, first, ap (rank_of bucket s) (ap (λ k. get_or ns k 0) (sym here) ∙ there.is)))
              | inr later ↦ absurd (elim (ranked_at (Precedes bucket s) ns j there.place is.ranked (omega (arith, past, later)) there.within) [
                | inl rank ↦ omega (arith, rank, first, ap (rank_of bucket s) there.is)
                | inr tie ↦ omega (arith, tie.0, grows, first, ap (rank_of bucket s) there.is)
              ])
            ]
          ]

pub lie_apart : (bucket : Low) (s : ClusterState) (ns : List ℕ) → IsIdeal bucket s ns → LieApart s ns
lie_apart bucket s ns is = record {
  many = many bucket s ns is;
  apart = λ i j lt first same. omega (arith, first, all_before bucket s ns is i j lt (omega (arith, first, many bucket s ns is)) same);
}

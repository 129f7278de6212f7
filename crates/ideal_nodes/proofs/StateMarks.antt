-- The marks of a state as sets and lists of nodes.
use Rattle.std.proofs.Common.{◌≡◌, ◌≢◌, ◌↔◌, ◌==◌, ◌&&◌, ◌||◌, ℕ, Bool, true, false, not, nat_lt, nat_eq, ap₂, List, length, set, filter, codes, slice_index_or, inl, inr, refl, sym, ap, ◌∙◌, arith, Option, Some, None, IfSome, IfNone}
use mathlib.Core.Bool.{true≢false}
use Rattle.std.proofs.lemmas.Bool.{cases_lt, cases_eq}
use Rattle.std.proofs.lemmas.List.{get_or-set_same, get_or-set_other, get_or_past, length-set}
use Rattle.node_sets.specs.Members.{has_node}
use Rattle.bucket_ids.specs.Buckets.{Low}
use Rattle.cluster_states.specs.ClusterStates.{IsState, group_of}
use Rattle.cluster_states.specs.MarkTests.{is_up, counts}
use Rattle.cluster_states.specs.declared.marks.Mark.{Mark}
use Rattle.cluster_states.specs.declared.marks.Mark.TheVariants.{Up, Down, Retired}
use Rattle.cluster_states.specs.declared.cluster_state.ClusterState.{ClusterState}
use Rattle.ideal_nodes.specs.Scores.{score_of, Ranks, ranks_before, Comes, IsRanked, IsFirst, Has}
use Rattle.ideal_nodes.specs.Choosing.{is_ahead, rank_in}
use Rattle.ideal_nodes.specs.Placement.{goes_ahead, rank_of, Precedes, IsIdeal, IsOwner}
use Rattle.ideal_nodes.proofs.Counts.{how_many_same, how_many_past}
use Rattle.ideal_nodes.proofs.Firsts.{ranks_alike}
use Rattle.ideal_nodes.proofs.Groups.{ranked_by_score}
use Rattle.ideal_nodes.proofs.Orders.{precedes_are_order, ranks_are_order}
use Rattle.ideal_nodes.proofs.Picks.{ranked_same}
use Rattle.ideal_nodes.proofs.Unique.{ranked_unique, ranked_without}

pub only_up : (m : Mark) → counts false m ≡ is_up m
only_up Up = refl
only_up Down = refl
only_up Retired = refl

-- the set of the numbers that are up
abbrev pub IsUpSet : ℕ → List Mark → Type 0
IsUpSet set ms = (n : ℕ) → has_node set n ≡ counts false (slice_index_or ms n Down)

up_in : (set : ℕ) (ms : List Mark) → IsUpSet set ms → (n : ℕ) → has_node set n ≡ is_up (slice_index_or ms n Down)
up_in set ms h n = h n ∙ only_up (slice_index_or ms n Down)

-- what goes ahead of a member is the same by the set and by the state
rank_same : (bucket : Low) (s : ClusterState) (set : ℕ) (score : ℕ → ℕ) (node : ℕ) → IsState s → IsUpSet set s.nodes
    → ((n : ℕ) → has_node set n ≡ true → score n ≡ score_of (codes "ideal") bucket n) → has_node set node ≡ true → rank_in score set s node ≡ rank_of bucket s node
unfolding rank_of rank_in
rank_same bucket s set score node valid up same member =
    how_many_same (is_ahead score set s node) (goes_ahead bucket s node) 32 (λ i. alike i (has_node set i) refl)
    ∙ how_many_past (goes_ahead bucket s node) (length s.nodes) 32 valid.few_nodes
    (λ i past. ap (λ m. is_up m && (nat_eq (group_of s i) (group_of s node) && ranks_before (score_of (codes "ideal") bucket) i node)) (get_or_past s.nodes i Down past))
  where
    alike : (i : ℕ) (t : Bool) → has_node set i ≡ t → is_ahead score set s node i ≡ goes_ahead bucket s node i
    alike i true e = ap₂ (λ (h r : Bool). h && (nat_eq (group_of s i) (group_of s node) && r)) (up_in set s.nodes up i)
        (ap₂ (λ x y. nat_lt y x || (nat_eq x y && nat_lt i node)) (same i e) (same node member))
    alike i false e = ap (λ (t : Bool). t && (nat_eq (group_of s i) (group_of s node) && ranks_before score i node)) e
        ∙ sym (ap (λ (t : Bool). t && (nat_eq (group_of s i) (group_of s node) && ranks_before (score_of (codes "ideal") bucket) i node)) (sym (up_in set s.nodes up i) ∙ e))

comes_alike : (rank rank' score score' : ℕ → ℕ) (a b : ℕ) → rank a ≡ rank' a → rank b ≡ rank' b → score a ≡ score' a → score b ≡ score' b → Comes rank score a b → Comes rank' score' a b
comes_alike rank rank' score score' a b p q u v (inl less) = inl (omega (arith, p, q, less))
comes_alike rank rank' score score' a b p q u v (inr tie) = inr (omega (arith, p, q, tie.0), ranks_alike score score' a b u v tie.1)

pub ideal_of_set : (bucket : Low) (s : ClusterState) (set : ℕ) (rank score : ℕ → ℕ) (nodes : List ℕ) → IsState s → IsUpSet set s.nodes
    → ((n : ℕ) → has_node set n ≡ true → score n ≡ score_of (codes "ideal") bucket n) → ((n : ℕ) → has_node set n ≡ true → rank n ≡ rank_in score set s n)
    → IsRanked (Comes rank score) nodes → ((n : ℕ) → (has_node set n ≡ true) ↔ Has n nodes) → IsIdeal bucket s nodes
ideal_of_set bucket s set rank score nodes valid up scores ranks ranked members = record {
  ranked = ranked_same (Comes rank score) (Precedes bucket s) nodes
      (λ a b p q h. (
      let x = (members a).1 p in
      let y = (members b).1 q in
      comes_alike rank (rank_of bucket s) score (score_of (codes "ideal") bucket) a b (rank_is a x) (rank_is b y) (scores a x) (scores b y) h)) ranked;
  members = λ n. ((λ u. (members n).0 (up_in set s.nodes up n ∙ u)), (λ h. sym (up_in set s.nodes up n) ∙ (members n).1 h));
}
  where
    rank_is : (n : ℕ) → has_node set n ≡ true → rank n ≡ rank_of bucket s n
    rank_is n has = ranks n has ∙ rank_same bucket s set score n valid up scores has

pub owner_of_set : (lane : Low) (s : ClusterState) (set : ℕ) (r : Option ℕ) → IsUpSet set s.distributors → IfSome r (IsFirst (score_of (codes "owner") lane) set) → IfSome r (IsOwner lane s)
owner_of_set lane s set (Some n) up first = record {
  up = sym (up_in set s.distributors up n) ∙ first.member;
  first = λ other u. first.first other (up_in set s.distributors up other ∙ u);
}
owner_of_set lane s set None up first = tt

pub no_owner_of_set : (s : ClusterState) (set : ℕ) (r : Option ℕ) → IsUpSet set s.distributors → IfNone r ((n : ℕ) → has_node set n ≡ false)
    → IfNone r ((n : ℕ) → is_up (slice_index_or s.distributors n Down) ≡ false)
no_owner_of_set s set (Some n) up none = tt
no_owner_of_set s set None up none = λ n. sym (up_in set s.distributors up n) ∙ none n

-- a node that is down in the second state
gone_down : (ms : List Mark) (gone : ℕ) → is_up (slice_index_or (set ms gone Down) gone Down) ≡ false
gone_down ms gone = elim (cases_lt gone (length ms)) [
  | inl lt ↦ ap is_up (get_or-set_same ms gone Down Down lt)
  | inr le ↦ ap is_up (get_or_past (set ms gone Down) gone Down (omega (arith, le, length-set ms gone Down)))
]

kept_up : (ms : List Mark) (gone n : ℕ) → n ≢ gone → is_up (slice_index_or (set ms gone Down) n Down) ≡ is_up (slice_index_or ms n Down)
kept_up ms gone n other = ap is_up (get_or-set_other ms gone n Down Down other)

-- a bucket has one ideal list
pub ideal_once : (bucket : Low) (s : ClusterState) (ns ms : List ℕ) → IsIdeal bucket s ns → IsIdeal bucket s ms → ns ≡ ms
ideal_once bucket s ns ms i j = ranked_unique (Precedes bucket s) (precedes_are_order bucket s) ns ms i.ranked j.ranked
    (λ n. (λ h. (j.members n).0 ((i.members n).1 h), λ h. (i.members n).0 ((j.members n).1 h)))

pub ideal_without : (bucket : Low) (s t : ClusterState) (ls lt : List ℕ) (gone : ℕ) → s.groups ≡ 1 → t.groups ≡ 1 → IsIdeal bucket s ls → IsIdeal bucket t lt
    → t.nodes ≡ set s.nodes gone Down → lt ≡ filter (λ n. not (n == gone)) ls
ideal_without bucket s t ls lt gone one other a b same =
    let at : (n : ℕ) → is_up (slice_index_or t.nodes n Down) ≡ is_up (slice_index_or (set s.nodes gone Down) n Down) = λ n. ap (λ ms. is_up (slice_index_or ms n Down)) same in
    let score = score_of (codes "ideal") bucket in
    ranked_without (Ranks score) (ranks_are_order score) ls lt gone (ranked_by_score bucket s ls one a) (ranked_by_score bucket t lt other b) (λ n. (
      (λ h. elim (cases_eq n gone) [
        | inl e ↦ absurd (true≢false (sym ((b.members n).1 h) ∙ at n ∙ ap (λ k. is_up (slice_index_or (set s.nodes gone Down) k Down)) e ∙ gone_down s.nodes gone))
        | inr other ↦ ((a.members n).0 (sym (kept_up s.nodes gone n other) ∙ sym (at n) ∙ (b.members n).1 h), other)
      ]),
      (λ h. (b.members n).0 (at n ∙ kept_up s.nodes gone n h.1 ∙ (a.members n).1 h.0)),
    ))

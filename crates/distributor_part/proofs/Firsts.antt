-- The first members of lists by rank.
use Rattle.std.proofs.Common.{◌≡◌, ℕ, ◌<◌, ◌≤◌, true, false, List, length, get_or, Option, Some, None, IfSome, IfNone, ◌↔◌, inl, inr, sym, ap, ◌∙◌, subst, arith}
use Rattle.std.proofs.lemmas.Bool.{cases_lt}
use mathlib.Core.Bool.{true≢false}
use Rattle.bucket_ids.specs.Buckets.{Low}
use Rattle.node_sets.specs.Members.{has_node}
use Rattle.cluster_states.specs.ClusterStates.{IsState}
use Rattle.cluster_states.specs.declared.cluster_state.ClusterState.{ClusterState}
use Rattle.ideal_nodes.specs.Scores.{Has, IsRanked}
use Rattle.ideal_nodes.specs.Placement.{Precedes, IsIdeal}
use Rattle.ideal_nodes.proofs.Orders.{precedes_are_order}
use Rattle.ideal_nodes.proofs.Places.{has_at, place_of, ranked_at}
use Rattle.distributor_part.specs.Targets.{IsFirstMember, IsFirstComplete, IsToBeActive, LacksComplete}
use Rattle.distributor_part.proofs.PartLaws.{ideal_small}

pub first_at : (bucket : Low) (state : ClusterState) (nodes : List ℕ) (members place : ℕ) → IsRanked (Precedes bucket state) nodes → place < length nodes
    → ((before : ℕ) → before < place → has_node members (get_or nodes before 0) ≡ false) → has_node members (get_or nodes place 0) ≡ true
    → IsFirstMember bucket state nodes members (get_or nodes place 0)
first_at bucket state nodes members place ranked within none here = record {
  listed = has_at nodes place 0 within;
  member = here;
  first = λ other has is.
      let there = place_of nodes other has in
      elim (cases_lt there.place place) [
        | inl before ↦ absurd (true≢false (sym is ∙ ap (has_node members) (sym there.is) ∙ none there.place before))
        | inr behind ↦ elim (cases_lt place there.place) [
          | inl later ↦ inr (subst (Precedes bucket state (get_or nodes place 0)) there.is
              (ranked_at (Precedes bucket state) nodes place there.place ranked later there.within))
          | inr not_later ↦ let same : there.place ≡ place = omega arith in inl (sym there.is ∙ ap (λ k. get_or nodes k 0) same)
        ]
      ];
}

pub none_at : (nodes : List ℕ) (members end : ℕ) → length nodes ≤ end → ((before : ℕ) → before < end → has_node members (get_or nodes before 0) ≡ false)
    → (node : ℕ) → Has node nodes → has_node members node ≡ false
none_at nodes members end past none node has =
    let there = place_of nodes node has in
    let w = there.within in
    ap (has_node members) (sym there.is) ∙ none there.place (omega arith)

-- ---- the ideal order

-- two ideal orders have the same nodes
pub has_other : (bucket : Low) (state : ClusterState) (ns ms : List ℕ) → IsIdeal bucket state ns → IsIdeal bucket state ms → (node : ℕ) → Has node ns → Has node ms
has_other bucket state ns ms one other node has = (other.members node).0 ((one.members node).1 has)

pub none_complete : (bucket : Low) (state : ClusterState) (complete : ℕ) (nodes : List ℕ) → IsIdeal bucket state nodes
    → ((node : ℕ) → Has node nodes → has_node complete node ≡ false) → LacksComplete state bucket complete
none_complete bucket state complete nodes is none other ideal node has = none node (has_other bucket state other nodes ideal is node has)

-- there is one first complete member
pub first_once : (state : ClusterState) (bucket : Low) (complete one other : ℕ) → IsFirstComplete state bucket complete one
    → IsFirstComplete state bucket complete other → one ≡ other
first_once state bucket complete one other a b =
    let before = (a.is_first).first other (has_other bucket state _ _ b.is_ideal a.is_ideal other (b.is_first).listed) (b.is_first).member in
    let behind = (b.is_first).first one (has_other bucket state _ _ a.is_ideal b.is_ideal one (a.is_first).listed) (a.is_first).member in
    elim before [
      | inl same ↦ sym same
      | inr ranks ↦ elim behind [ inl same ↦ same | inr back ↦ absurd ((precedes_are_order bucket state).once one other ranks back) ]
    ]

-- ---- the node that is to be active

pub active_once : (state : ClusterState) (bucket : Low) (complete : ℕ) (active : Option ℕ) (one other : ℕ) → IsToBeActive state bucket complete active one
    → IsToBeActive state bucket complete active other → one ≡ other
active_once state bucket complete (Some a) one other h k = sym h ∙ k
active_once state bucket complete None one other h k = first_once state bucket complete one other h k

none_to_be : (state : ClusterState) (bucket : Low) (complete : ℕ) (active : Option ℕ) (node : ℕ) → active ≡ None → LacksComplete state bucket complete
    → IsToBeActive state bucket complete active node → ⊥
none_to_be state bucket complete (Some a) node e lacks h = cc
none_to_be state bucket complete None node e lacks h =
    true≢false (sym (h.is_first).member ∙ lacks h.ideal h.is_ideal node (h.is_first).listed)

-- what was found is the node that is to be active
pub is_to_be : (state : ClusterState) (bucket : Low) (complete : ℕ) (active found : Option ℕ) (node : ℕ) → IfSome found (IsToBeActive state bucket complete active)
    → IfNone found (active ≡ None) → IfNone found (LacksComplete state bucket complete)
    → (found ≡ Some node) ↔ IsToBeActive state bucket complete active node
is_to_be state bucket complete active (Some n) node some none lacks =
    (λ e. let same : n ≡ node = cc in subst (IsToBeActive state bucket complete active) same some, λ h. ap Some (active_once state bucket complete active n node some h))
is_to_be state bucket complete active None node some none lacks = (λ e. cc, λ h. absurd (none_to_be state bucket complete active node none lacks h))

pub small_to_be : (state : ClusterState) (bucket : Low) (complete : ℕ) (active found : Option ℕ) → IsState state → IfSome active (λ n. n < 32)
    → IfSome found (IsToBeActive state bucket complete active) → IfSome found (λ n. n < 32)
small_to_be state bucket complete active None valid small is = tt
small_to_be state bucket complete (Some a) (Some n) valid small is = subst (λ k. k < 32) is small
small_to_be state bucket complete None (Some n) valid small is = ideal_small bucket state is.ideal valid is.is_ideal n (is.is_first).listed

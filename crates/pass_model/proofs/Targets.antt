-- The targets of a row, as a part and as a pass say them.
use Rattle.std.proofs.Common.{◌≡◌, ◌==◌, ℕ, true, eq-eqb, List, [], ◌∷◌, take, Option, Some, None, refl, sym, ap, ◌∙◌, subst, inl, inr}
use Rattle.std.proofs.lemmas.Bool.{eqb-true}
use Rattle.bucket_ids.specs.Buckets.{Low}
use Rattle.node_sets.specs.Members.{has_node}
use Rattle.cluster_states.specs.declared.cluster_state.ClusterState.{ClusterState}
use Rattle.ideal_nodes.specs.Scores.{Has}
use Rattle.ideal_nodes.specs.Placement.{IsIdeal}
use Rattle.ideal_nodes.proofs.StateMarks.{ideal_once}
use Rattle.distributor_part.specs.Targets.{IsTarget, AreTargets}
use Rattle.lane_rest.specs.Targets.{is_member, is_active, is_target_in}
use Rattle.proof_basics.proofs.Tests.{or_true, or_left, or_right, same-by}

member-has : (ns : List ℕ) (n : ℕ) → is_member ns n ≡ true → Has n ns
member-has [] n h = cc
member-has (m ∷ ns) n h = elim (or_true (m == n) (is_member ns n) h) [ inl here ↦ inl (sym (eqb-true m n here)) | inr later ↦ inr (member-has ns n later) ]

has-member : (ns : List ℕ) (n : ℕ) → Has n ns → is_member ns n ≡ true
has-member [] n h = absurd h
has-member (m ∷ ns) n (inl here) = or_left (m == n) (is_member ns n) (eq-eqb m n (sym here))
has-member (m ∷ ns) n (inr later) = or_right (m == n) (is_member ns n) (has-member ns n later)

active-is : (a : Option ℕ) (n : ℕ) → is_active a n ≡ true → a ≡ Some n
active-is None n h = cc
active-is (Some m) n h = ap (λ x. Some x) (eqb-true m n h)

is-active : (a : Option ℕ) (n : ℕ) → a ≡ Some n → is_active a n ≡ true
is-active a n h = ap (λ (o : Option ℕ). is_active o n) h ∙ eq-eqb n n refl

pub targets-of-list : (redundancy : ℕ) (s : ClusterState) (b : Low) (active : Option ℕ) (set : ℕ) (ideal : List ℕ) → AreTargets redundancy s b active set → IsIdeal b s ideal
    → (n : ℕ) → has_node set n ≡ is_target_in redundancy ideal active n
targets-of-list redundancy s b active set ideal t i n = same-by (has_node set n) (is_target_in redundancy ideal active n) (λ h. to_list ((t n).0 h))
    (λ h. (t n).1 (elim (or_true (is_member (take redundancy ideal) n) (is_active active n) h) [
      | inl among ↦ inl (record { ideal = ideal; is_ideal = i; among = member-has (take redundancy ideal) n among })
      | inr act ↦ inr (active-is active n act)
    ]))
  where
    to_list : IsTarget redundancy s b active n → is_target_in redundancy ideal active n ≡ true
    to_list (inl x) = or_left (is_member (take redundancy ideal) n) (is_active active n)
        (has-member (take redundancy ideal) n (subst (λ (ns : List ℕ). Has n (take redundancy ns)) (ideal_once b s x.ideal ideal x.is_ideal i) x.among))
    to_list (inr a) = or_right (is_member (take redundancy ideal) n) (is_active active n) (is-active active n a)

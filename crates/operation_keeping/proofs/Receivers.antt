-- A round goes to enough nodes: as many of the ideal order as there are to be copies, and a state has enough of them.
use Rattle.std.proofs.Common.{◌≡◌, ◌↔◌, ℕ, ◌≤◌, Bool, true, false, cond, List, [], ◌∷◌, length, take, min, Option, Some, None, inl, inr, sym, ap, ◌∙◌, subst, arith, eqb, ltb}
use Rattle.std.proofs.lemmas.Bool.{cases_lt, lt-ltb}
use Rattle.std.proofs.lemmas.List.{length-take}
use Rattle.bucket_ids.specs.Buckets.{Low}
use Rattle.node_sets.specs.Members.{has_node, size_of, Within}
use Rattle.cluster_states.specs.declared.cluster_state.ClusterState.{ClusterState}
use Rattle.cluster_states.specs.declared.states.PublishFault.{PublishFault}
use Rattle.cluster_states.specs.declared.states.PublishFault.TheVariants.{TooFewUp}
use Rattle.cluster_states.specs.Publishing.{up_of}
use Rattle.ideal_nodes.specs.Placement.{Precedes}
use Rattle.ideal_nodes.proofs.Orders.{precedes_are_order}
use Rattle.ideal_nodes.proofs.Places.{ranked_take}
use Rattle.ideal_nodes.proofs.Listing.{ideal_there}
use Rattle.messages.specs.declared.decision.Decision.TheVariants as choice
use Rattle.distributor_part.specs.declared.rules.Rules.{Rules}
use Rattle.lane_journals.specs.Buckets.{same_bucket}
use Rattle.lane_journals.specs.Places.{Setting, state_in, IsTarget, receivers_of}
use Rattle.lane_journals.specs.KeptJournals.{IsLegal, IsLegalStep}
use Rattle.lane_journals.specs.declared.event.LaneEvent.{LaneEvent}
use Rattle.lane_journals.specs.declared.event.LaneEvent.TheVariants as event
use Rattle.lane_journals.proofs.Basics.{or_else-cases, only_if-some}
use Rattle.lane_keeping.specs.LaneKeeping.{setting_of}
use Rattle.operation_keeping.specs.RuleBounds.{AreRules}
use Rattle.operation_keeping.proofs.Sizes.{within-size, ranked-size}

no-fault : (up acks : ℕ) → cond (ltb up acks) (Some (TooFewUp up acks)) None ≡ None → acks ≤ up
no-fault up acks h = elim (cases_lt up acks) [
  | inl less ↦ (let z : ◌≡◌ {A = Option PublishFault} (Some (TooFewUp up acks)) None = sym (ap (λ (t : Bool). cond t (Some (TooFewUp up acks)) None) (lt-ltb up acks less)) ∙ h in absurd (cc))
  | inr enough ↦ enough
]

least : (a b c : ℕ) → a ≤ b → a ≤ c → a ≤ min b c
least a b c p q = omega arith

module _ (lane : Low) (rules : Rules) where
  abbrev S : Setting
  S = setting_of lane rules

  -- enough nodes are up
  state-up : (L : List LaneEvent) → IsLegal S L → (v : ℕ) (s : ClusterState) → state_in v L ≡ Some s → rules.acks ≤ up_of s
  state-up [] l v s h = cc
  state-up (e ∷ L) l v s h = by_event e l.1 h (state-up L l.0 v s)
    where
      by_event : (e : LaneEvent) → IsLegalStep S L e → state_in v (e ∷ L) ≡ Some s → (state_in v L ≡ Some s → rules.acks ≤ up_of s) → rules.acks ≤ up_of s
      by_event (event.Published t) p h ih = elim (or_else-cases (state_in v L) _ s h) [
        | inl old ↦ ih old
        | inr new ↦ (let o = only_if-some (eqb t.version v) t s new.1 in subst (λ (x : ClusterState). rules.acks ≤ up_of x) o.1 (no-fault (up_of t) rules.acks (p.placed).1))
      ]
      by_event _ p h ih = ih h

  module _ (are : AreRules rules) where
    targets-enough : (L : List LaneEvent) → IsLegal S L → (w : ℕ) (c : Low) (set : ℕ) (s : ClusterState) → state_in w L ≡ Some s → ((n : ℕ) → (has_node set n ≡ true) ↔ IsTarget S L w c n) → rules.acks ≤ size_of set
    targets-enough L l w c set s at is =
        let i = ideal_there c s in
        let up : rules.acks ≤ up_of s = state-up L l w s at in
        let many = i.many in
        let some = are.enough in
        let first = ranked-size (Precedes c s) (precedes_are_order c s) (take rules.redundancy i.nodes) set (ranked_take (Precedes c s) rules.redundancy i.nodes (i.is_ideal).ranked)
        (λ n has. (is n).1 (inl (record { state = s; published = at; ideal = i.nodes; is_ideal = i.is_ideal; among = has }))) in
        let taken = length-take rules.redundancy i.nodes in
        let low = least rules.acks rules.redundancy (length i.nodes) some (omega (arith, up, many)) in
        omega (arith, low, taken, first)

    pub receivers-enough : (L : List LaneEvent) → IsLegal S L → (v : ℕ) (b : Low) (set : ℕ) → receivers_of v b L ≡ Some set → rules.acks ≤ size_of set
    receivers-enough [] l v b set h = cc
    receivers-enough (e ∷ L) l v b set h = by_event e l.1 h (receivers-enough L l.0 v b set)
      where
        same : (x : ℕ) → ◌≡◌ {A = Option ℕ} (Some x) (Some set) → x ≡ set
        same x q = cc

        by_event : (e : LaneEvent) → IsLegalStep S L e → receivers_of v b (e ∷ L) ≡ Some set → (receivers_of v b L ≡ Some set → rules.acks ≤ size_of set) → rules.acks ≤ size_of set
        by_event (event.Decided d w (choice.RoundBegun c x)) p h ih = by_tests (eqb w v) (same_bucket c b) h
          where
            by_tests : (t u : Bool) → cond t (cond u (Some x) (receivers_of v b L)) (receivers_of v b L) ≡ Some set → rules.acks ≤ size_of set
            by_tests true true h = subst (λ (y : ℕ). rules.acks ≤ size_of y) (same x h) (targets-enough L l.0 w c x (p.placed).0.state (p.placed).0.published (p.placed).1)
            by_tests true false h = ih h
            by_tests false u h = ih h
        by_event (event.Decided d w (choice.RoundEnded c x)) p h ih = ih h
        by_event (event.Decided d w (choice.RowSplit c)) p h ih = ih h
        by_event (event.Decided d w (choice.RowsJoined c)) p h ih = ih h
        by_event (event.Decided d w (choice.ActiveOn c n)) p h ih = ih h
        by_event (event.Decided d w (choice.DeleteFrom c n s)) p h ih = ih h
        by_event (event.Decided d w (choice.DeleteOver c n)) p h ih = ih h
        by_event _ p h ih = ih h

-- so a row of which they all are complete members has enough of them
pub complete-enough : (lane : Low) (rules : Rules) → AreRules rules → (L : List LaneEvent) → IsLegal (setting_of lane rules) L → (v : ℕ) (b : Low) (set complete : ℕ) → receivers_of v b L ≡ Some set → Within set complete → rules.acks ≤ size_of complete
complete-enough lane rules are L l v b set complete is within = let enough = receivers-enough lane rules are L l v b set is in let more = within-size set complete within in omega (arith, enough, more)

-- Two standings of one plan that are both what the journal says give the same next.
use Rattle.std.proofs.Common.{◌≡◌, ◌↔◌, nat_eq, ℕ, Bool, true, false, cond, List, Option, Some, None, inl, inr, refl, sym, ap, ◌∙◌, subst, arith, eq-eqb}
use Rattle.std.proofs.lemmas.Bool.{false_from_ne_true}
use Rattle.bucket_ids.specs.Buckets.{Low}
use Rattle.stamps.specs.declared.stamp.Stamp.{Stamp}
use Rattle.cluster_states.specs.declared.cluster_state.ClusterState.{ClusterState}
use Rattle.documents.specs.declared.entry.Entry.{Entry}
use Rattle.distributor_part.specs.declared.rules.Rules.{Rules}
use Rattle.op_machine.specs.declared.plan.Plan.{Plan}
use Rattle.op_machine.specs.declared.machine.Standing.{Standing}
use Rattle.op_machine.specs.declared.verdict.Verdict.{Verdict}
use Rattle.op_machine.specs.declared.verdict.Verdict.TheVariants.{Ends, Writes}
use Rattle.op_machine.specs.Nodes.{first_node}
use Rattle.op_machine.specs.Outcomes.{Answers, answers_of, waits, verdict, reader, store_next, verdict_next, read_next, next_of}
use Rattle.op_machine.specs.Standings.{next_at}
use Rattle.lane_journals.specs.Stamps.{StampLe, Le, same_stamp}
use Rattle.lane_journals.specs.Readers.{Journal, Beginning}
use Rattle.lane_journals.specs.Meanings.{history, entry_at}
use Rattle.lane_journals.specs.declared.event.LaneEvent.{LaneEvent}
use Rattle.lane_journals.proofs.Order.{same_stamp-true}
use Rattle.lane_keeping.specs.NodeKeeping.{stamp_of}
use Rattle.operation_keeping.specs.OperationKeeping.{beginning_of, KnowsReads, KnowsStores, KnowsOperation}
use Rattle.operation_keeping.proofs.Plain.{some-same, none-some}

-- ---- tests and stamps

same-tests : (x y : Bool) → (x ≡ true → y ≡ true) → (y ≡ true → x ≡ true) → x ≡ y
same-tests true y f g = sym (f refl)
same-tests false y f g = sym (false_from_ne_true y (λ h. let q : false ≡ true = g h in cc))

same-by : {A : Type 0} (x y : Bool) → (x ≡ true) ↔ A → (y ≡ true) ↔ A → x ≡ y
same-by x y f g = same-tests x y (λ h. g.1 (f.0 h)) (λ h. f.1 (g.0 h))

both-le : (a b : Stamp) → StampLe a b → StampLe b a → a ≡ b
unfolding StampLe same_stamp
both-le a b (inl p) (inl q) = absurd (omega (arith, p, q))
both-le a b (inl p) (inr q) = let e = q.0 in absurd (omega (arith, p, e))
both-le a b (inr p) (inl q) = let e = p.0 in absurd (omega (arith, q, e))
both-le a b (inr p) (inr q) =
    let c = p.1 in let d = q.1 in
    let counts : a.count ≡ b.count = omega (arith, c, d) in
    same_stamp-true a b (ap (λ (t : Bool). cond t (nat_eq a.count b.count) false) (eq-eqb a.version b.version p.0) ∙ eq-eqb a.count b.count counts)

le-both : (a b : Option Stamp) → Le a b → Le b a → a ≡ b
unfolding Le
le-both None None f g = refl
le-both None (Some b) f g = absurd g
le-both (Some a) None f g = absurd f
le-both (Some a) (Some b) f g = ap (λ (x : Stamp). Some x) (both-le a b f g)

-- ---- what was told of the Reads is what the journal says

module _ (J : List LaneEvent) (line : ℕ) (b : Beginning) where
  newest-le : (x y : Answers) → KnowsReads J None line b x → KnowsReads J None line b y → (o : Option Stamp) → stamp_of x.seen ≡ o → Le o (stamp_of y.seen)
  unfolding Le
  newest-le x y f g None e = tt
  newest-le x y f g (Some z) e = let r = f.shown z e in subst (λ (o : Option Stamp). Le o (stamp_of y.seen)) r.3 (g.newest r.0 r.1 r.2)

  same-entry : (x y : Option Entry) → ((e : Entry) → x ≡ Some e → entry_at e.stamp J ≡ Some e) → ((e : Entry) → y ≡ Some e → entry_at e.stamp J ≡ Some e) → stamp_of x ≡ stamp_of y → x ≡ y
  same-entry None None f g e = refl
  same-entry None (Some y) f g e = absurd (none-some y.stamp e)
  same-entry (Some x) None f g e = absurd (none-some x.stamp (sym e))
  same-entry (Some x) (Some y) f g e = sym (f x refl) ∙ ap (λ (z : Stamp). entry_at z J) (some-same x.stamp y.stamp e) ∙ g y refl

  same-reads : (x y : Answers) → KnowsReads J None line b x → KnowsReads J None line b y → x ≡ y
  same-reads x y f g =
      let told = λ (n : ℕ). same-by (x.told n) (y.told n) (f.told n) (g.told n) in
      let answered = λ (n : ℕ). same-by (x.answered n) (y.answered n) (f.answered n) (g.answered n) in
      let short = same-by x.short y.short f.short g.short in
      let seen = same-entry x.seen y.seen (λ e q. (f.written e q).1) (λ e q. (g.written e q).1) (le-both (stamp_of x.seen) (stamp_of y.seen) (newest-le x y f g (stamp_of x.seen) refl) (newest-le y x g f (stamp_of y.seen) refl)) in
      λ i. record { told = λ n. told n i; answered = λ n. answered n i; short = short i; seen = seen i }

-- and of the Stores, but for what they showed
abbrev with_seen : Option Entry → Answers → Answers
with_seen seen a = record { told = a.told; answered = a.answered; short = a.short; seen = seen }

same-stores : (H : Journal) (line : ℕ) (b : Beginning) (x y : Answers) → KnowsStores H None line b x → KnowsStores H None line b y → (seen : Option Entry)
    → with_seen seen x ≡ with_seen seen y
same-stores H line b x y f g seen =
    let told = λ (n : ℕ). same-by (x.told n) (y.told n) (f.told n) (g.told n) in
    let short = same-by x.short y.short f.short g.short in
    let answered = λ (n : ℕ). same-answer n b.stamp refl in
    λ i. record { told = λ n. told n i; answered = λ n. answered n i; short = short i; seen = seen }
  where
    same-answer : (n : ℕ) (o : Option Stamp) → b.stamp ≡ o → x.answered n ≡ y.answered n
    same-answer n None e = f.unstamped n e ∙ sym (g.unstamped n e)
    same-answer n (Some z) e = f.answered n z e ∙ sym (g.answered n z e)

-- which depends on nothing that they showed
module _ (p : Plan) (r a : Answers) (seen : Option Entry) where
  abbrev c : Answers
  c = with_seen seen a

  unseen-storer : (o : Option ℕ) (e : Entry) → store_next o p a e ≡ store_next o p c e
  unseen-storer (Some n) e = refl
  unseen-storer None e = refl

  unseen-verdict : (v : Verdict) → verdict_next v p a ≡ verdict_next v p c
  unseen-verdict (Ends x) = refl
  unseen-verdict (Writes e) = unseen-storer (first_node (waits p a)) e

  unseen-reader : (o : Option ℕ) → read_next o p r a ≡ read_next o p r c
  unseen-reader (Some n) = refl
  unseen-reader None = unseen-verdict (verdict p r)

  unseen : next_of p r a ≡ next_of p r c
  unseen = unseen-reader (reader p r)

pub same-next : (lane : Low) (rules : Rules) (J : List LaneEvent) (d : ℕ) (s : ClusterState) (line : ℕ) (row other : Low) (written entry : Option Entry) (t u : Standing)
    → KnowsOperation lane rules J d s line row written t → KnowsOperation lane rules J d s line other entry u → u.plan ≡ t.plan → next_at u ≡ next_at t
same-next lane rules J d s line row other written entry t u know knows same =
    ap (λ (q : Plan). next_of q (answers_of u.reads) (answers_of u.stores)) same
    ∙ ap (λ (r : Answers). next_of t.plan r (answers_of u.stores)) (same-reads J line b (answers_of u.reads) (answers_of t.reads) (subst (λ (q : Plan). KnowsReads J None line (beginning_of d s q.operation q.stamp) (answers_of u.reads)) same knows.reads) know.reads)
    ∙ unseen t.plan (answers_of t.reads) (answers_of u.stores) None
    ∙ ap (λ (a : Answers). next_of t.plan (answers_of t.reads) a)
    (same-stores (history J) line b (answers_of u.stores) (answers_of t.stores) (subst (λ (q : Plan). KnowsStores (history J) None line (beginning_of d s q.operation q.stamp) (answers_of u.stores)) same knows.stores) know.stores None)
    ∙ sym (unseen t.plan (answers_of t.reads) (answers_of t.stores) None)
  where
    b : Beginning
    b = beginning_of d s t.plan.operation t.plan.stamp

-- What comes back of the Stores and the Reads of a line.
use Rattle.std.proofs.Common.{◌≡◌, ℕ, ◌≤◌, Bool, true, false, cond, List, ◌∷◌, Option, Some, None, refl, sym, ap, ◌∙◌, subst, eqb, eq-eqb}
use Rattle.bucket_ids.specs.Buckets.{Low}
use Rattle.stamps.specs.declared.stamp.Stamp.{Stamp}
use Rattle.cluster_states.specs.declared.cluster_state.ClusterState.{ClusterState}
use Rattle.messages.specs.declared.operation.Operation.{Operation}
use Rattle.distributor_part.specs.declared.rules.Rules.{Rules}
use Rattle.lane_journals.specs.Buckets.{Id}
use Rattle.lane_journals.specs.Stamps.{same_stamp}
use Rattle.lane_journals.specs.Events.{Body, ReadDoc, Store, Reply, Answer, Event, Returned}
use Rattle.lane_journals.specs.Readers.{Journal, Given, Beginning, began, closed, before_line, Message, sent, first_reply, returned, is_store, stored_by, answered_store}
use Rattle.lane_journals.specs.Legal.{Legal}
use Rattle.lane_journals.specs.States.{state_of}
use Rattle.lane_journals.specs.Meanings.{history}
use Rattle.lane_journals.specs.declared.event.LaneEvent.{LaneEvent}
use Rattle.lane_journals.proofs.Ids.{same_id-refl}
use Rattle.lane_journals.proofs.Kept.{store-line, stamp-line}
use Rattle.lane_completeness.proofs.LineReplies.{known-store, known-read}
use Rattle.lane_completeness.proofs.Runs.{At, first, sent-since}
use Rattle.lane_journals.proofs.Hearing.{counts}
use Rattle.lane_completeness.proofs.Missing.{Came, came}

-- ---- the answer to a Store counts

same-itself : (s : Stamp) → same_stamp s s ≡ true
unfolding same_stamp
same-itself s = rw (eq-eqb s.version s.version refl, eq-eqb s.count s.count refl) refl

module _ (acks : ℕ) (P : ℕ → ℕ → Bool) (v n k : ℕ) (id : Id) (s : Stamp) (m : Message) (g : Given) (under : m.version ≡ v) (to : m.receiver ≡ n) (is : m.body ≡ Store id s) where
  reads : stored_by v id s n (Some m) (Some (Answer g.content g.names)) ≡ true
  reads = ap (λ (t : Bool). cond t (cond (eqb m.receiver n) (cond (is_store id s m.body) true false) false) false) (eq-eqb m.version v under)
      ∙ ap (λ (t : Bool). cond t (cond (is_store id s m.body) true false) false) (eq-eqb m.receiver n to)
      ∙ ap (λ (b : Body). cond (is_store id s b) true false) is
      ∙ ap (λ (t : Bool). cond (cond t (same_stamp s s) false) true false) (same_id-refl id)
      ∙ ap (λ (t : Bool). cond t true false) (same-itself s)

  still : (H : Journal) (e : Event) → answered_store v id s n H ≡ true → answered_store v id s n (e ∷ H) ≡ true
  still H e h = by_event e
    where
      by_test : (t : Bool) → cond t true (answered_store v id s n H) ≡ true
      by_test true = refl
      by_test false = h

      by_event : (e : Event) → answered_store v id s n (e ∷ H) ≡ true
      by_event (Returned j) = by_test (stored_by v id s n (sent j H) (first_reply j H))
      by_event _ = h

  counts-now : (H : Journal) → sent k H ≡ Some m → first_reply k H ≡ Some (Answer g.content g.names) → answered_store v id s n (Returned k ∷ H) ≡ true
  counts-now H was replied = ap (λ (x : Option Message). cond (stored_by v id s n x (first_reply k H)) true (answered_store v id s n H)) was
      ∙ ap (λ (x : Option Reply). cond (stored_by v id s n (Some m) x) true (answered_store v id s n H)) replied
      ∙ ap (λ (t : Bool). cond t true (answered_store v id s n H)) reads

  pub store-counts : (H : Journal) → Legal acks P H → returned k H ≡ true → sent k H ≡ Some m → first_reply k H ≡ Some (Answer g.content g.names) → answered_store v id s n H ≡ true
  store-counts = counts acks P (λ H. answered_store v id s n H ≡ true) k m (Answer g.content g.names) counts-now still

module _ (lane : Low) (rules : Rules) (line d : ℕ) (o : Operation) (stamp : Option Stamp) (J F L : List LaneEvent) (s : ClusterState)
    (a : At lane rules line d s.version o stamp J F L) (some : 1 ≤ rules.acks) where
  -- a Store of the line's stamp is sent since it began
  module _ (t : Stamp) (stamped : stamp ≡ Some t) where
    own-line : (k : ℕ) (b : Beginning) → began k (history L) ≡ Some b → b.stamp ≡ Some t → k ≡ line
    own-line k b h is = stamp-line rules.acks (state_of (history L)) (history L) a.legal k line b _ t h a.begun is stamped

    store-since : (k : ℕ) (m : Message) (id : Id) → sent k (history L) ≡ Some m → m.body ≡ Store id t → sent k (history J) ≡ None
    store-since k m id was is = by_sent (sent k (history J)) refl
      where
        by_sent : (x : Option Message) → sent k (history J) ≡ x → sent k (history J) ≡ None
        by_sent None f = f
        by_sent (Some y) f =
            let z = a.sent_before k y f in
            let same : y ≡ m = cc in
            let x = store-line rules.acks (state_of (history J)) (history J) a.legal_before k y id t f (ap (λ (i : Message). i.body) same ∙ is) in
            let one = own-line x.line x.begin (a.began_before x.line x.begin x.begun) x.stamped in
            let q : ◌≡◌ {A = Option Beginning} (Some x.begin) None = sym (subst (λ (i : ℕ). began i (history J) ≡ Some x.begin) one x.begun) ∙ a.fresh in
            absurd (cc)

    pub store-later : (k : ℕ) (m : Message) (id : Id) → sent k (history L) ≡ Some m → m.body ≡ Store id t → sent k (before_line line (history L)) ≡ None
    store-later k m id was is = sent-since lane rules line d s.version o stamp J F L a k (store-since k m id was is)

    -- while the line is open each of them is answered, or memory is wanted, or nothing is heard of it
    pub store-came : closed line (history L) ≡ false → (test : Message → Type 0) (k : ℕ) (m : Message) (id : Id) → sent k (history L) ≡ Some m → m.body ≡ Store id t → test m → Came (before_line line (history L)) (history L) test k
    store-came unclosed test k m id was is holds = came lane rules line d s.version o stamp J F L a (before_line line (history L)) test k m (store-later k m id was is) was holds
        (λ r f. known-store rules.acks (state_of (history L)) m.version k m r refl some id t is (history L) a.legal (λ j b h e. subst (λ (i : ℕ). closed i (history L) ≡ false) (sym (own-line j b h e)) unclosed) was f)

  -- so is each Read of its document
  pub read-came : (test : Message → Type 0) (k : ℕ) (m : Message) → closed line (history L) ≡ false → sent k (history L) ≡ Some m → sent k (before_line line (history L)) ≡ None → m.body ≡ ReadDoc o.id → test m → Came (before_line line (history L)) (history L) test k
  read-came test k m unclosed was late is holds = came lane rules line d s.version o stamp J F L a (before_line line (history L)) test k m late was holds
      (λ r f. known-read rules.acks (state_of (history L)) m.version k m r refl some line (first lane rules line d s.version o stamp J) is (history L) a.legal (record { begun = a.begun; unclosed = unclosed; late = late }) was f)

-- How an operation ends that was prepared: by what its Reads showed, or by its Stores; with too few answers only where nothing
-- was heard of the absent node.
use Rattle.std.proofs.Common.{◌≡◌, ◌⊎◌, ◌↔◌, ℕ, ◌≤◌, Bool, true, false, cond, not, ◌&&◌, List, Option, Some, None, is_some, Result, Ok, Err, inl, inr, refl, sym, ap, ◌∙◌, subst}
use mathlib.Core.Bool.{true≢false}
use Rattle.bucket_ids.specs.Buckets.{Low}
use Rattle.node_sets.specs.Members.{has_node}
use Rattle.ideal_nodes.proofs.Firsts.{member_small}
use Rattle.stamps.specs.declared.stamp.Stamp.{Stamp}
use Rattle.cluster_states.specs.declared.cluster_state.ClusterState.{ClusterState}
use Rattle.documents.specs.Fields.{Contents}
use Rattle.doc_updates.specs.declared.fault.UpdateFault.{UpdateFault}
use Rattle.documents.specs.declared.entry.Entry.{Entry}
use Rattle.messages.specs.Meaning.{decide, effect}
use Rattle.messages.specs.declared.operation.Decided.{Decided}
use Rattle.messages.specs.declared.operation.Decided.TheVariants.{GoesAhead, ConditionFails, DoesNothing}
use Rattle.messages.specs.declared.operation.Operation.{Operation}
use Rattle.messages.specs.declared.outcome.Outcome.{Outcome}
use Rattle.messages.specs.declared.outcome.Outcome.TheVariants as outcome
use Rattle.op_machine.specs.declared.plan.Plan.{Plan}
use Rattle.op_machine.specs.declared.verdict.Verdict.TheVariants.{Ends as Stops}
use Rattle.op_machine.specs.Nodes.{first_node, count_nodes}
use Rattle.op_machine.proofs.NodeLaws.{first_node-all}
use Rattle.op_machine.specs.Judging.{looks, document_in, shown_body, shown, written_by, judged, judged_by}
use Rattle.op_machine.specs.Outcomes.{Answers, answers_of, waits, counts, lacks, has_enough, has_active, absent_of, too_few, stored, read_verdict, verdict, reader, Next, Asks, Finishes}
use Rattle.op_machine.specs.Plans.{IsPlan}
use Rattle.op_machine.specs.Standings.{next_at}
use Rattle.distributor_part.specs.declared.rules.Rules.{Rules}
use Rattle.lane_journals.specs.Buckets.{Id}
use Rattle.lane_journals.specs.Events.{ReadDoc, Store}
use Rattle.lane_journals.specs.Readers.{Beginning, before_line, Message, closed, wrote}
use Rattle.lane_journals.specs.States.{state_of}
use Rattle.lane_journals.specs.Meanings.{history}
use Rattle.lane_journals.specs.KeptJournals.{IsLegal}
use Rattle.lane_journals.specs.declared.event.LaneEvent.{LaneEvent}
use Rattle.lane_keeping.specs.LaneKeeping.{setting_of}
use Rattle.operation_keeping.specs.OperationKeeping.{beginning_of, WasRead, WasShort, IsReadOf, IsStoreOf}
use Rattle.operation_keeping.proofs.Counting.{few-count, absent-lacks, active-absent, lacks-parts}
use Rattle.operation_keeping.proofs.Judged.{NextEnd, ByReads, ByStores, next-end, due-by, verdict-writes, ends-looks}
use Rattle.operation_keeping.proofs.Messages.{own-wrote}
use Rattle.operation_keeping.proofs.Ending.{unwritten-yet}
use Rattle.operation_keeping.specs.Wants.{Ends, NextGives, OperationWants}
use Rattle.lane_completeness.specs.Causes.{OfLooking, OfStoring, IsMissing}
use Rattle.lane_completeness.proofs.Runs.{At}
use Rattle.lane_completeness.proofs.Missing.{Back, missing, any-short}
use Rattle.lane_completeness.proofs.Opening.{FallsShort}
use Rattle.lane_completeness.proofs.Stores.{store-counts, store-later, store-came, read-came}

-- ---- too few answers

-- the end for want of memory, or for want of answers
too-few-of : (p : Plan) (a : Answers) (x : Outcome) → x ≡ too_few p a → ((a.short ≡ true) × (x ≡ outcome.NoMemory)) ⊎ ((a.short ≡ false) × (x ≡ outcome.TooFew (count_nodes (counts p a)) p.acks (absent_of p.active (lacks p a))))
too-few-of p a x is = by_short a.short refl is
  where
    by_short : (z : Bool) → a.short ≡ z → x ≡ cond z outcome.NoMemory (outcome.TooFew (count_nodes (counts p a)) p.acks (absent_of p.active (lacks p a)))
        → ((a.short ≡ true) × (x ≡ outcome.NoMemory)) ⊎ ((a.short ≡ false) × (x ≡ outcome.TooFew (count_nodes (counts p a)) p.acks (absent_of p.active (lacks p a))))
    by_short true f h = inl (f, h)
    by_short false f h = inr (f, h)

not-enough : (p : Plan) (a : Answers) → IsPlan p → has_enough p a ≡ false → lacks p a (absent_of p.active (lacks p a)) ≡ true
not-enough p a plan few = absent-lacks p a plan (few-count p a few)

-- acknowledged, or else the absent node didn't answer
stored-or : (p : Plan) (a : Answers) → IsPlan p → (stamp : Stamp) → (stored p a stamp ≡ outcome.Acked stamp) ⊎ ((stored p a stamp ≡ too_few p a) × (lacks p a (absent_of p.active (lacks p a)) ≡ true))
stored-or p a plan stamp = by_enough (has_enough p a) refl
  where
    by_active : (z : Bool) → has_active p.active a.answered ≡ z → (cond z (outcome.Acked stamp) (too_few p a) ≡ outcome.Acked stamp) ⊎ ((cond z (outcome.Acked stamp) (too_few p a) ≡ too_few p a) × (lacks p a (absent_of p.active (lacks p a)) ≡ true))
    by_active true f = inl refl
    by_active false f = inr (refl, (active-absent p a p.active plan.active f).1)

    by_enough : (z : Bool) → has_enough p a ≡ z
        → (cond (z && has_active p.active a.answered) (outcome.Acked stamp) (too_few p a) ≡ outcome.Acked stamp) ⊎ ((cond (z && has_active p.active a.answered) (outcome.Acked stamp) (too_few p a) ≡ too_few p a) × (lacks p a (absent_of p.active (lacks p a)) ≡ true))
    by_enough true f = by_active (has_active p.active a.answered) refl
    by_enough false f = inr (refl, not-enough p a plan f)

-- once no recipient waits each was told
told-all : (p : Plan) (a : Answers) → first_node (waits p a) ≡ None → (n : ℕ) → has_node p.recipients n ≡ true → a.told n ≡ true
told-all p a none n has = by_test (a.told n) (sym (ap (λ (t : Bool). t && not (a.told n)) has) ∙ first_node-all (waits p a) none n (member_small p.recipients n has))
  where
    by_test : (t : Bool) → (true && not t) ≡ false → t ≡ true
    by_test true h = refl
    by_test false h = cc

-- ---- what was judged

-- an end that isn't for want of answers or of memory
abbrev pub IsJudged : Outcome → Type 0
IsJudged (outcome.TooFew answered needed absent) = ⊥
IsJudged (outcome.OwnedElsewhere owner version) = ⊥
IsJudged outcome.NoMemory = ⊥
IsJudged _ = Unit {0}

same-end : (y x : Outcome) → Stops y ≡ Stops x → y ≡ x
same-end y x h = cc

judged-so : (w : Decided) (o : Operation) (stamp : Option Stamp) (seen : Option Entry) (x : Outcome) → judged_by w o stamp seen ≡ Stops x → IsJudged x
judged-so ConditionFails o stamp seen x h = subst IsJudged (same-end _ x h) tt
judged-so DoesNothing o stamp seen x h = subst IsJudged (same-end _ x h) tt
judged-so GoesAhead o None seen x h = subst IsJudged (same-end (shown seen) x h) (by_seen seen)
  where
    by_body : (e : Entry) (b : Option Contents) → IsJudged (shown_body e.stamp b)
    by_body e None = tt
    by_body e (Some d) = tt

    by_seen : (y : Option Entry) → IsJudged (shown y)
    by_seen None = tt
    by_seen (Some e) = by_body e e.body
judged-so GoesAhead o (Some s) seen x h = by_effect (effect o.id o.kind (document_in seen)) h
  where
    by_effect : (r : Result (Option Contents) UpdateFault) → written_by o.id s r ≡ Stops x → IsJudged x
    by_effect (Ok body) h = absurd (cc)
    by_effect (Err fault) h = subst IsJudged (same-end (outcome.BadUpdate fault) x h) tt

-- ---- the operation

-- an operation that was prepared ends with its acknowledgement, by what was seen, or short
pub data PreparedEnd (stamp : Option Stamp) (o : Operation) (L : List LaneEvent) (line : ℕ) (x : Outcome) : Type 0 where
  EndsAcked : (t : Stamp) → stamp ≡ Some t → x ≡ outcome.Acked t → PreparedEnd stamp o L line x
  EndsJudged : looks o ≡ true → IsJudged x → PreparedEnd stamp o L line x
  EndsShort : FallsShort L line x → PreparedEnd stamp o L line x

module _ (lane : Low) (rules : Rules) (line d : ℕ) (o : Operation) (stamp : Option Stamp) (J F L : List LaneEvent) (s : ClusterState)
    (a : At lane rules line d s.version o stamp J F L) (legal : IsLegal (setting_of lane rules) L) (some : 1 ≤ rules.acks) (e : ℕ) (x : Outcome) (w : OperationWants lane rules L line o e s (Ends x)) where
  abbrev p : Plan
  p = (w.standing).plan

  abbrev reads : Answers
  reads = answers_of (w.standing).reads

  abbrev stores : Answers
  stores = answers_of (w.standing).stores

  abbrev begin : Beginning
  begin = beginning_of e s ((w.standing).plan).operation ((w.standing).plan).stamp

  plan : IsPlan p
  plan = (((w.stands).knows).plan).is_plan

  unclosed : closed line (history L) ≡ false
  unclosed = ((((w.stands).knows).plan).is_under_way).unclosed

  stamp-is : p.stamp ≡ stamp
  stamp-is =
      let z = ((((w.stands).knows).plan).is_under_way).begun_as in
      let y = a.begun in
      let same : begin ≡ record { distributor = d; version = s.version; id = o.id; stamp = stamp } = cc in
      ap (λ (b : Beginning). b.stamp) same

  finishes : next_at (w.standing) ≡ Finishes x
  finishes = by_next (next_at (w.standing)) refl w.gives
    where
      by_next : (y : Next) → next_at (w.standing) ≡ y → NextGives line w.written y (Ends x) → next_at (w.standing) ≡ Finishes x
      by_next (Asks m) f g = absurd g
      by_next (Finishes y) f g = f ∙ ap Finishes (sym g)

  -- ---- answers

  -- the node to which a message of the phase was sent, and that didn't answer
  abbrev Misses : (Message → Type 0) → Answers → Type 0
  Misses test y = (n : ℕ) → has_node p.recipients n ≡ true → y.answered n ≡ false → (WasShort (history L) line test → ⊥) → IsMissing (history L) line n

  same-id : p.operation.id ≡ o.id
  same-id = ap (λ (y : Operation). y.id) (w.stands).operation_is

  stored-missing : first_node (waits p stores) ≡ None → Misses (IsStoreOf begin) stores
  stored-missing all n has unanswered none =
      let r = ((((w.stands).knows).stores).told n).0 (told-all p stores all n has) in
      let stamped = sym stamp-is ∙ r.stamped in
      let body : r.message.body ≡ Store o.id r.stamp = r.body ∙ ap (λ (i : Id). Store i r.stamp) same-id in
      let written = own-wrote rules.acks (state_of (history L)) (history L) a.legal line _ r.stamp a.begun stamped r.number r.message p.operation.id r.was_sent r.body in
      missing lane rules line d s.version o stamp J F L a (before_line line (history L)) (IsStoreOf begin) r.number r.message n
      (store-later lane rules line d o stamp J F L s a some r.stamp stamped r.number r.message p.operation.id r.was_sent r.body) r.was_sent r.version r.receiver
      (OfStoring r.stamp stamped written body)
      (store-came lane rules line d o stamp J F L s a some r.stamp stamped unclosed (IsStoreOf begin) r.number r.message p.operation.id r.was_sent r.body (r.version, (r.stamp, r.stamped, r.body)))
      (λ back. true≢false (sym ((((w.stands).knows).stores).answered n r.stamp r.stamped
      ∙ store-counts rules.acks (state_of (history L)) s.version n r.number p.operation.id r.stamp r.message back.given r.version r.receiver r.body (history L) a.legal back.back r.was_sent back.reply) ∙ unanswered))
      none

  -- an answer that came back was told
  told-read : (n : ℕ) (r : WasRead (history L) None line begin n) → Back (history L) r.number → reads.answered n ≡ true
  told-read n r back = ((((w.stands).knows).reads).answered n).1 (
    (back.given).content,
    record {
      read = record {
        number = r.number;
        message = r.message;
        names = (back.given).names;
        was_sent = r.was_sent;
        later = r.later;
        receiver = r.receiver;
        version = r.version;
        body = r.body;
        reply = back.reply;
      };
      back = back.back;
    },
  )

  read-missing : wrote line (history L) ≡ false → first_node (waits p reads) ≡ None → Misses (IsReadOf begin) reads
  read-missing unwritten all n has unanswered none =
      let r = ((((w.stands).knows).reads).told n).0 (told-all p reads all n has) in
      let body : r.message.body ≡ ReadDoc o.id = r.body ∙ ap ReadDoc same-id in
      missing lane rules line d s.version o stamp J F L a (before_line line (history L)) (IsReadOf begin) r.number r.message n r.later r.was_sent r.version r.receiver
      (OfLooking (ap is_some (((w.stands).knows).plan).prepared_as) unwritten body)
      (read-came lane rules line d o stamp J F L s a some (IsReadOf begin) r.number r.message unclosed r.was_sent r.later body (r.version, r.body))
      (λ back. true≢false (sym (told-read n r back) ∙ unanswered)) none

  -- ---- the end

  -- too few answers of one phase
  phase-short : (y : Answers) (test : Message → Type 0) → ((y.short ≡ true) ↔ WasShort (history L) line test) → Misses test y
      → lacks p y (absent_of p.active (lacks p y)) ≡ true → x ≡ too_few p y → FallsShort L line x
  phase-short y test short misses lacking is = elim (too-few-of p y x is) [
    | inl wants ↦ inl (wants.1, any-short (history L) line (before_line line (history L)) (λ k h. h) test (short.0 wants.0))
    | inr few ↦ (let n = absent_of p.active (lacks p y) in let z = lacks-parts p y n lacking in
        inr (record { answered = _; needed = _; absent = n; is = few.1; missing = misses n z.0 z.1 (λ wanted. true≢false (sym (short.1 wanted) ∙ few.0)) }))
  ]

  stores-end : (y : Entry) → p.stamp ≡ Some y.stamp → first_node (waits p stores) ≡ None → x ≡ stored p stores y.stamp → PreparedEnd stamp o L line x
  stores-end y stamped none is = elim (stored-or p stores plan y.stamp) [
    | inl acked ↦ EndsAcked y.stamp (sym stamp-is ∙ stamped) (is ∙ acked)
    | inr few ↦ EndsShort (phase-short stores (IsStoreOf begin) (((w.stands).knows).stores).short (stored-missing none) few.1 (is ∙ few.0))
  ]

  looking : (z : Bool) → looks p.operation ≡ z → z ≡ true → looks o ≡ true
  looking z f h = sym (ap looks (w.stands).operation_is) ∙ f ∙ h

  reads-end : reader p reads ≡ None → verdict p reads ≡ Stops x → PreparedEnd stamp o L line x
  reads-end over v = by_looks (looks p.operation) refl over v
    where
      unwritten : wrote line (history L) ≡ false
      unwritten = unwritten-yet lane rules L e s line w.row w.written w.standing legal (w.stands).knows w.written ((w.stands).knows).entry (due-by p reads (Stops x) over v)

      by_enough : looks p.operation ≡ true → first_node (waits p reads) ≡ None → (z : Bool) → has_enough p reads ≡ z
          → cond z (judged p.operation p.stamp reads.seen) (Stops (too_few p reads)) ≡ Stops x → PreparedEnd stamp o L line x
      by_enough l none true f h = EndsJudged (looking true l refl) (judged-so (decide p.operation (document_in reads.seen)) p.operation p.stamp reads.seen x h)
      by_enough l none false f h = EndsShort (phase-short reads (IsReadOf begin) (((w.stands).knows).reads).short (read-missing unwritten none) (not-enough p reads plan f) (sym (same-end _ x h)))

      by_looks : (z : Bool) → looks p.operation ≡ z → cond z (first_node (waits p reads)) None ≡ None
          → cond z (read_verdict p reads) (judged p.operation p.stamp None) ≡ Stops x → PreparedEnd stamp o L line x
      by_looks true l none h = by_enough l none (has_enough p reads) refl h
      by_looks false l none h = absurd (true≢false (sym (ends-looks p.operation p.stamp None x plan.stamped h) ∙ l))

  pub operation-ends : PreparedEnd stamp o L line x
  operation-ends = by_end (next-end (w.standing) x finishes)
    where
      by_end : NextEnd (w.standing) x → PreparedEnd stamp o L line x
      by_end (ByReads over v) = reads-end over v
      by_end (ByStores y over v first is) = stores-end y (verdict-writes p reads y v).0 first is

-- The outcome of the machine may close its line.
use Rattle.std.proofs.Common.{◌≡◌, ◌⊎◌, ◌↔◌, ℕ, ◌<◌, ◌≤◌, Bool, true, false, cond, not, ◌&&◌, List, Option, Some, None, is_some, IsSome, inl, inr, refl, sym, ◌∙◌, subst, Result, Ok, Err, ap}
use mathlib.Core.Bool.{true≢false}
use Rattle.std.proofs.lemmas.Bool.{and_parts, and_from}
use Rattle.bucket_ids.specs.Buckets.{Low}
use Rattle.node_sets.specs.Members.{has_node}
use Rattle.stamps.specs.declared.stamp.Stamp.{Stamp}
use Rattle.cluster_states.specs.declared.cluster_state.ClusterState.{ClusterState}
use Rattle.documents.specs.declared.entry.Entry.{Entry}
use Rattle.documents.specs.Fields.{Contents}
use Rattle.doc_updates.specs.declared.fault.UpdateFault.{UpdateFault}
use Rattle.conditions.specs.Formulas.{Formula}
use Rattle.doc_selection.specs.declared.terms.Term.{Term}
use Rattle.messages.specs.Meaning.{is_met, decide_by, decide, effect}
use Rattle.messages.specs.declared.operation.Decided.{Decided}
use Rattle.messages.specs.declared.operation.Decided.TheVariants.{GoesAhead, ConditionFails, DoesNothing}
use Rattle.messages.specs.declared.operation.OpKind.{OpKind}
use Rattle.messages.specs.declared.operation.OpKind.TheVariants.{Put, Update, Remove, Get}
use Rattle.messages.specs.declared.outcome.Outcome.{Outcome}
use Rattle.messages.specs.declared.outcome.Outcome.TheVariants as outcome
use Rattle.distributor_part.specs.declared.rules.Rules.{Rules}
use Rattle.op_machine.specs.declared.plan.Plan.{Plan}
use Rattle.op_machine.specs.declared.machine.Standing.{Standing}
use Rattle.op_machine.specs.declared.verdict.Verdict.TheVariants.{Ends}
use Rattle.op_machine.specs.Nodes.{first_node, count_nodes}
use Rattle.op_machine.specs.Judging.{looks, document_in, stamp_in, shown_body, shown, written_by, goes_on, judged, judged_by}
use Rattle.op_machine.specs.Outcomes.{Answers, answers_of, waits, counts, lacks, has_enough, has_active, absent_of, too_few, stored, read_verdict, verdict, reader, Finishes}
use Rattle.op_machine.specs.Plans.{is_get}
use Rattle.op_machine.specs.Standings.{next_at, due_entry}
use Rattle.lane_journals.specs.Sets.{count}
use Rattle.lane_journals.specs.Buckets.{key_of}
use Rattle.lane_journals.specs.Events.{Content}
use Rattle.lane_journals.specs.Readers.{Beginning, Preparing, wrote, answered_store}
use Rattle.lane_journals.specs.Facts.{ReadBack}
use Rattle.lane_journals.specs.Legal.{EnoughRead, MayAck}
use Rattle.lane_journals.specs.States.{state_of}
use Rattle.lane_journals.specs.Endings.{HasSeen, IsDocument, NoDocument, FellShort, StoresFellShort, MayEnd}
use Rattle.lane_journals.specs.Meanings.{history, entry_at, is_acked}
use Rattle.lane_journals.specs.Places.{Setting}
use Rattle.lane_journals.specs.KeptJournals.{IsLegal, IsLegalStep}
use Rattle.lane_journals.specs.declared.event.LaneEvent.{LaneEvent}
use Rattle.lane_journals.specs.declared.event.LaneEvent.TheVariants.{Closed}
use Rattle.lane_journals.proofs.Meant.{meant-legal}
use Rattle.lane_keeping.specs.NodeKeeping.{stamp_of}
use Rattle.lane_keeping.specs.LaneKeeping.{setting_of}
use Rattle.operation_keeping.specs.OperationKeeping.{beginning_of, KnowsEntry, KnowsOperation}
use Rattle.operation_keeping.specs.Laws.{IsAckedAs}
use Rattle.operation_keeping.proofs.Plain.{some-same, none-some}
use Rattle.operation_keeping.proofs.Counting.{count_nodes-is, enough-count, few-count, absent-lacks, active-absent, lacks-parts, some-told}
use Rattle.operation_keeping.proofs.Judged.{NextEnd, ByReads, ByStores, next-end, due-by, verdict-writes, ends-looks}
use Rattle.operation_keeping.proofs.Messages.{own-wrote}

-- ---- documents

stamp-in-of : (o : Option Entry) → stamp_in o ≡ stamp_of o
stamp-in-of None = refl
stamp-in-of (Some e) = refl

decide-get : (kind : OpKind) (condition : Option (Formula Term)) (create : Bool) (doc : Option Contents) → is_get kind ≡ true → condition ≡ None → decide_by condition kind create doc ≡ GoesAhead
decide-get Get None create doc g c = refl
decide-get (Put d) condition create doc g c = absurd (true≢false (sym g))
decide-get (Update u) condition create doc g c = absurd (true≢false (sym g))
decide-get Remove condition create doc g c = absurd (true≢false (sym g))
decide-get Get (Some f) create doc g c = absurd (cc)

chosen : (t : Bool) → cond t GoesAhead ConditionFails ≡ DoesNothing → ⊥
chosen true e = cc
chosen false e = cc

-- only where no document was seen nothing is done
decide-nothing : (kind : OpKind) (condition : Option (Formula Term)) (create : Bool) (doc : Option Contents) → decide_by condition kind create doc ≡ DoesNothing → doc ≡ None
decide-nothing kind (Some f) create doc h = absurd (chosen (is_met f kind create doc) h)
decide-nothing (Put d) None create doc h = absurd (cc)
decide-nothing (Update u) None create None h = refl
decide-nothing (Update u) None create (Some d) h = absurd (cc)
decide-nothing Remove None create doc h = absurd (cc)
decide-nothing Get None create doc h = absurd (cc)

stamp-some : (stamp : Option Stamp) (g : Bool) → is_some stamp ≡ not g → (g ≡ true → ⊥) → IsSome stamp
stamp-some (Some s) g h other = refl
stamp-some None true h other = absurd (other refl)
stamp-some None false h other = absurd (true≢false (sym h))

module _ (J : List LaneEvent) where
  -- the entry of the stamp has the document
  document-of : (e : Entry) → entry_at e.stamp J ≡ Some e → IsSome e.body → IsDocument J e.stamp
  document-of e at has = record { entry = e; at = at; document = has }

  no-document : (seen : Option Entry) → ((e : Entry) → seen ≡ Some e → entry_at e.stamp J ≡ Some e) → document_in seen ≡ None → NoDocument J (stamp_of seen)
  no-document None written none = tt
  no-document (Some e) written none = λ x. nothing (some-same x.entry e (sym x.at ∙ written e refl)) x.document
    where
      nothing : {y : Entry} → y ≡ e → IsSome y.body → ⊥
      nothing q has = true≢false (sym (subst (λ (o : Option Contents). IsSome o) none (subst (λ (z : Entry). IsSome z.body) q has)))

-- ---- what was seen

module _ (lane : Low) (rules : Rules) (J : List LaneEvent) (d : ℕ) (s : ClusterState) (line : ℕ) (row : Low) (written : Option Entry) (t : Standing)
    (legal : IsLegal (setting_of lane rules) J) (know : KnowsOperation lane rules J d s line row written t) where
  abbrev S : Setting
  S = setting_of lane rules

  abbrev p : Plan
  p = t.plan

  abbrev a : Answers
  a = answers_of t.reads

  abbrev b : Beginning
  b = beginning_of d s p.operation p.stamp

  abbrev preparing : Preparing
  preparing = record { row = row; recipients = λ n. has_node p.recipients n }

  pub enough-read : has_enough p a ≡ true → EnoughRead rules.acks (history J) line b preparing
  enough-read h = (
    counts p a,
    subst (λ (x : ℕ). x ≤ count (counts p a)) (know.plan).acks_are (enough-count p a h),
    λ n c. (let x = and_parts (has_node p.recipients n) (a.answered n) c in (x.0, ((know.reads).answered n).0 x.1)),
  )

  has-seen : has_enough p a ≡ true → HasSeen rules.acks (history J) line b (stamp_of a.seen)
  has-seen h = record { preparing = preparing; was_prepared = (know.plan).prepared_as; enough = enough-read h; newest = (know.reads).newest; shown = (know.reads).shown }

  pub fell-short : (x : Answers) (R : ℕ → Type 0) → ((n : ℕ) → (x.answered n ≡ true) ↔ R n) → (absent : ℕ) → lacks p x absent ≡ true → FellShort (λ n. has_node p.recipients n ≡ true) R (count_nodes (counts p x)) absent
  fell-short x R same absent h = let parts = lacks-parts p x absent h in (
    (counts p x, sym (count_nodes-is (counts p x)), λ n. (λ c. (let y = and_parts (has_node p.recipients n) (x.answered n) c in (y.0, (same n).0 y.1)), λ r. and_from (has_node p.recipients n) (x.answered n) r.0 ((same n).1 r.1))),
    parts.0,
    λ r. true≢false (sym ((same absent).1 r) ∙ parts.1),
  )

  -- ---- too few

  pub few-reads : wrote line (history J) ≡ false → has_enough p a ≡ false → MayEnd S J line b (too_few p a)
  few-reads unwritten few = by_short a.short
    where
      by_short : (x : Bool) → MayEnd S J line b (cond x outcome.NoMemory (outcome.TooFew (count_nodes (counts p a)) p.acks (absent_of p.active (lacks p a))))
      by_short true = tt
      by_short false = inr (record {
        preparing = preparing;
        was_prepared = (know.plan).prepared_as;
        short = inl (
          unwritten,
          (
            (know.plan).acks_are,
            few-count p a few,
            fell-short a (λ n. (content : Content) × ReadBack n line b content (history J)) (know.reads).answered (absent_of p.active (lacks p a)) (absent-lacks p a (know.plan).is_plan (few-count p a few)),
          ),
        );
      })

  -- ---- the Reads end it

  judged-ends : wrote line (history J) ≡ false → (seen : Option Entry) → HasSeen rules.acks (history J) line b (stamp_of seen) → ((e : Entry) → seen ≡ Some e → entry_at e.stamp J ≡ Some e)
      → (x : Outcome) → judged p.operation p.stamp seen ≡ Ends x → MayEnd S J line b x
  judged-ends unwritten seen has found x h = by_decided (decide p.operation (document_in seen)) refl h
    where
      seen-in : HasSeen rules.acks (history J) line b (stamp_in seen)
      seen-in = subst (λ (o : Option Stamp). HasSeen rules.acks (history J) line b o) (sym (stamp-in-of seen)) has

      -- a get goes ahead
      not-get : (w : Decided) → decide p.operation (document_in seen) ≡ w → (w ≡ GoesAhead → ⊥) → is_get p.operation.kind ≡ true → ⊥
      not-get w e other g = other (sym e ∙ decide-get p.operation.kind p.operation.condition p.operation.create (document_in seen) g ((know.plan).plain g))

      stamped : (w : Decided) → decide p.operation (document_in seen) ≡ w → (w ≡ GoesAhead → ⊥) → IsSome p.stamp
      stamped w e other = stamp-some p.stamp (is_get p.operation.kind) ((know.plan).is_plan).stamped (not-get w e other)

      same-outcome : (y : Outcome) → Ends y ≡ Ends x → y ≡ x
      same-outcome y e = cc

      shows : (o : Option Entry) → o ≡ seen → p.stamp ≡ None → MayEnd S J line b (shown o)
      shows None e none = (none, subst (λ (o : Option Entry). HasSeen rules.acks (history J) line b (stamp_of o)) (sym e) has, tt)
      shows (Some y) e none = by_body y.body refl
        where
          here : HasSeen rules.acks (history J) line b (Some y.stamp)
          here = subst (λ (o : Option Entry). HasSeen rules.acks (history J) line b (stamp_of o)) (sym e) has

          by_body : (z : Option Contents) → y.body ≡ z → MayEnd S J line b (shown_body y.stamp z)
          by_body (Some doc) f = (none, here, document-of J y (found y (sym e)) (subst (λ (o : Option Contents). IsSome o) (sym f) refl))
          by_body None f = (none, here, no-document J (Some y) (λ z q. found z (sym e ∙ q)) f)

      goes : (stamp : Option Stamp) → p.stamp ≡ stamp → goes_on p.operation stamp seen ≡ Ends x → MayEnd S J line b x
      goes None none h = subst (λ (y : Outcome). MayEnd S J line b y) (same-outcome (shown seen) h) (shows seen refl none)
      goes (Some z) some h = by_effect (effect p.operation.id p.operation.kind (document_in seen)) h
        where
          by_effect : (r : Result (Option Contents) UpdateFault) → written_by p.operation.id z r ≡ Ends x → MayEnd S J line b x
          by_effect (Ok body) h = absurd (cc)
          by_effect (Err fault) h = subst (λ (y : Outcome). MayEnd S J line b y) (same-outcome (outcome.BadUpdate fault) h) (subst (λ (o : Option Stamp). IsSome o) (sym some) refl, unwritten, (stamp_of seen, has))

      by_decided : (w : Decided) → decide p.operation (document_in seen) ≡ w → judged_by w p.operation p.stamp seen ≡ Ends x → MayEnd S J line b x
      by_decided GoesAhead e h = goes p.stamp refl h
      by_decided ConditionFails e h = subst (λ (y : Outcome). MayEnd S J line b y) (same-outcome (outcome.ConditionFailed (stamp_in seen)) h) (stamped ConditionFails e (λ q. cc), unwritten, seen-in)
      by_decided DoesNothing e h = subst (λ (y : Outcome). MayEnd S J line b y) (same-outcome (outcome.Nothing (stamp_in seen)) h) (
        stamped DoesNothing e (λ q. cc),
        unwritten,
        seen-in,
        subst (λ (o : Option Stamp). NoDocument J o) (sym (stamp-in-of seen)) (no-document J seen found (decide-nothing p.operation.kind p.operation.condition p.operation.create (document_in seen) e)),
      )

  pub unwritten-yet : (w : Option Entry) → KnowsEntry J line t w → due_entry p a ≡ None → wrote line (history J) ≡ false
  unwritten-yet None k none = k
  unwritten-yet (Some e) k none = absurd (none-some e (sym none ∙ k.1))

  pub reads-end : (x : Outcome) → reader p a ≡ None → verdict p a ≡ Ends x → wrote line (history J) ≡ false → MayEnd S J line b x
  reads-end x over v unwritten = by_looks (looks p.operation) refl v
    where
      by_enough : (z : Bool) → has_enough p a ≡ z → cond z (judged p.operation p.stamp a.seen) (Ends (too_few p a)) ≡ Ends x → MayEnd S J line b x
      by_enough true e h = judged-ends unwritten a.seen (has-seen e) (λ y q. ((know.reads).written y q).1) x h
      by_enough false e h = subst (λ (y : Outcome). MayEnd S J line b y) (let same : too_few p a ≡ x = cc in same) (few-reads unwritten e)

      by_looks : (z : Bool) → looks p.operation ≡ z → cond z (read_verdict p a) (judged p.operation p.stamp None) ≡ Ends x → MayEnd S J line b x
      by_looks true e h = by_enough (has_enough p a) refl h
      by_looks false e h = absurd (true≢false (sym (ends-looks p.operation p.stamp None x ((know.plan).is_plan).stamped h) ∙ e))

  pub never-acked : (x : Outcome) → wrote line (history J) ≡ false → MayEnd S J line b x → is_acked x ≡ true → MayAck rules.acks (history J) line b
  never-acked (outcome.Acked z) unwritten m h = absurd (true≢false (sym m.1 ∙ unwritten))
  never-acked _ unwritten m h = absurd (true≢false (sym h))

  -- ---- the Stores end it

  -- once all Stores were told the entry was written
  all-written : (e : Entry) → p.stamp ≡ Some e.stamp → first_node (waits p (answers_of t.stores)) ≡ None → wrote line (history J) ≡ true
  all-written e stamped none =
      let x = some-told p (answers_of t.stores) (know.plan).is_plan none in
      let w = ((know.stores).told x.0).0 x.1 in
      own-wrote rules.acks (state_of (history J)) (history J) (meant-legal S J legal) line b w.stamp ((know.plan).is_under_way).begun_as w.stamped w.number w.message b.id w.was_sent w.body

  -- what the Stores come to, with the entry written
  record StoresEnd (x : Outcome) : Type 0 where
    may_end : MayEnd S J line b x
    acked : is_acked x ≡ true → MayAck rules.acks (history J) line b

  module _ (stamp : Stamp) (stamped : p.stamp ≡ Some stamp) (written_now : wrote line (history J) ≡ true) where
    same-stores : (n : ℕ) → (has_node t.stores.answered n ≡ true) ↔ (answered_store s.version p.operation.id stamp n (history J) ≡ true)
    same-stores n = let e = (know.stores).answered n stamp stamped in (λ h. sym e ∙ h, λ h. e ∙ h)

    few-stores : (absent : ℕ) → (count_nodes (counts p (answers_of t.stores)) < p.acks) ⊎ (p.active ≡ Some absent) → lacks p (answers_of t.stores) absent ≡ true
        → StoresFellShort rules.acks (history J) b preparing stamp (count_nodes (counts p (answers_of t.stores))) p.acks absent
    few-stores absent cause lacking = (
      (know.plan).acks_are,
      elim cause [ inl few ↦ inl few | inr act ↦ inr ((know.plan).active_is (key_of p.operation.id) (know.plan).inside ∙ act) ],
      fell-short (answers_of t.stores) (λ n. answered_store s.version p.operation.id stamp n (history J) ≡ true) same-stores absent lacking,
    )

    too-few : (count_nodes (counts p (answers_of t.stores)) < p.acks) ⊎ (p.active ≡ Some (absent_of p.active (lacks p (answers_of t.stores)))) → lacks p (answers_of t.stores) (absent_of p.active (lacks p (answers_of t.stores))) ≡ true
        → StoresEnd (too_few p (answers_of t.stores))
    too-few cause lacking = by_short t.stores.short
      where
        by_short : (z : Bool) → StoresEnd (cond z outcome.NoMemory (outcome.TooFew (count_nodes (counts p (answers_of t.stores))) p.acks (absent_of p.active (lacks p (answers_of t.stores)))))
        by_short true = record { may_end = tt; acked = λ h. absurd (true≢false (sym h)) }
        by_short false = record {
          may_end = inr (record { preparing = preparing; was_prepared = (know.plan).prepared_as; short = inr (stamp, stamped, written_now, few-stores (absent_of p.active (lacks p (answers_of t.stores))) cause lacking) });
          acked = λ h. absurd (true≢false (sym h));
        }

    may-ack : has_enough p (answers_of t.stores) ≡ true → has_active p.active (λ n. has_node t.stores.answered n) ≡ true → MayAck rules.acks (history J) line b
    may-ack enough active_too = record {
      stamp = stamp;
      stamped = stamped;
      preparing = preparing;
      was_prepared = (know.plan).prepared_as;
      enough = (
        counts p (answers_of t.stores),
        subst (λ (x : ℕ). x ≤ count (counts p (answers_of t.stores))) (know.plan).acks_are (enough-count p (answers_of t.stores) enough),
        λ n c. (let x = and_parts (has_node p.recipients n) (has_node t.stores.answered n) c in (x.0, (same-stores n).0 x.1)),
      );
      active = λ n key inside is. (same-stores n).0 (by_active n p.active (sym ((know.plan).active_is key inside) ∙ is) active_too);
    }
      where
        by_active : (n : ℕ) (o : Option ℕ) → o ≡ Some n → has_active o (λ n. has_node t.stores.answered n) ≡ true → has_node t.stores.answered n ≡ true
        by_active n None e h = absurd (cc)
        by_active n (Some m) e h = let same : m ≡ n = cc in subst (λ (i : ℕ). has_node t.stores.answered i ≡ true) same h

    stores-end : StoresEnd (stored p (answers_of t.stores) stamp)
    stores-end = by_tests (has_enough p (answers_of t.stores)) (has_active p.active (λ n. has_node t.stores.answered n)) refl refl
      where
        by_tests : (u v : Bool) → has_enough p (answers_of t.stores) ≡ u → has_active p.active (λ n. has_node t.stores.answered n) ≡ v → StoresEnd (cond (u && v) (outcome.Acked stamp) (too_few p (answers_of t.stores)))
        by_tests true true e f = record { may_end = (stamped, written_now); acked = λ h. may-ack e f }
        by_tests true false e f = let x = active-absent p (answers_of t.stores) p.active ((know.plan).is_plan).active f in too-few (inr x.0) x.1
        by_tests false v e f = let few = few-count p (answers_of t.stores) e in too-few (inl few) (absent-lacks p (answers_of t.stores) (know.plan).is_plan few)

  -- ---- the line may be closed

  closing : (x : Outcome) → MayEnd S J line b x → (is_acked x ≡ true → MayAck rules.acks (history J) line b) → IsLegalStep S J (Closed line x)
  closing x may acked = let open_line = (know.plan).is_under_way in record {
    noted = tt;
    permitted = record { begin = b; begun = open_line.begun_as; unclosed = open_line.unclosed; acked = acked };
    placed = tt;
    ended = (b, open_line.begun_as, may);
  }

  pub ends-so : (x : Outcome) → next_at t ≡ Finishes x → IsLegalStep S J (Closed line x)
  ends-so x h = by_end (next-end t x h)
    where
      by_end : NextEnd t x → IsLegalStep S J (Closed line x)
      by_end (ByReads over v) =
          let unwritten = unwritten-yet written know.entry (due-by p a (Ends x) over v) in
          let may = reads-end x over v unwritten in
          closing x may (never-acked x unwritten may)
      by_end (ByStores e over v first is) =
          let own = verdict-writes p a e v in
          let end = stores-end e.stamp own.0 (all-written e own.0 first) in
          subst (λ (y : Outcome). IsLegalStep S J (Closed line y)) (sym is) (closing (stored p (answers_of t.stores) e.stamp) end.may_end end.acked)

  -- ---- what an acknowledgement says

  acked-entry : (e : Entry) (stamp : Stamp) → outcome.Acked stamp ≡ stored p (answers_of t.stores) e.stamp → e.stamp ≡ stamp
  acked-entry e stamp h = by_tests (has_enough p (answers_of t.stores) && has_active p.active (λ n. has_node t.stores.answered n)) (sym h)
    where
      by_short : (z : Bool) → cond z outcome.NoMemory (outcome.TooFew (count_nodes (counts p (answers_of t.stores))) p.acks (absent_of p.active (lacks p (answers_of t.stores)))) ≡ outcome.Acked stamp → ⊥
      by_short true q = cc
      by_short false q = cc

      by_tests : (z : Bool) → cond z (outcome.Acked e.stamp) (too_few p (answers_of t.stores)) ≡ outcome.Acked stamp → e.stamp ≡ stamp
      by_tests true q = cc
      by_tests false q = absurd (by_short t.stores.short q)

  pub acked-so : (stamp : Stamp) → next_at t ≡ Finishes (outcome.Acked stamp) → IsAckedAs (history J) d s line t stamp
  acked-so stamp h = by_end (next-end t (outcome.Acked stamp) h)
    where
      acked-with : p.stamp ≡ Some stamp → IsAckedAs (history J) d s line t stamp
      acked-with stamped = record {
        stamped = stamped;
        begun = ((know.plan).is_under_way).begun_as ∙ ap (λ (z : Option Stamp). Some (beginning_of d s p.operation z)) stamped;
        answered = λ n. (know.stores).answered n stamp stamped;
      }

      by_end : NextEnd t (outcome.Acked stamp) → IsAckedAs (history J) d s line t stamp
      by_end (ByReads over v) =
          let unwritten = unwritten-yet written know.entry (due-by p a (Ends (outcome.Acked stamp)) over v) in
          absurd (true≢false (sym (reads-end (outcome.Acked stamp) over v unwritten).1 ∙ unwritten))
      by_end (ByStores e over v first is) = acked-with ((verdict-writes p a e v).0 ∙ ap (λ (z : Stamp). Some z) (acked-entry e stamp is))

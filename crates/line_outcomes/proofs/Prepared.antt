-- With what the operation of a line wants to end that is prepared.
use Rattle.std.proofs.Common.{◌≡◌, ◌⊎◌, ◌↔◌, ℕ, ◌<◌, ◌≤◌, Bool, true, false, cond, not, ◌&&◌, List, Option, Some, None, inl, inr, refl, sym, ap, ◌∙◌, subst}
use mathlib.Core.Bool.{true≢false}
use Rattle.std.proofs.lemmas.Bool.{and_parts, and_from}
use Rattle.bucket_ids.specs.Buckets.{Low}
use Rattle.node_sets.specs.Members.{has_node}
use Rattle.stamps.specs.declared.stamp.Stamp.{Stamp}
use Rattle.cluster_states.specs.declared.cluster_state.ClusterState.{ClusterState}
use Rattle.documents.specs.declared.entry.Entry.{Entry}
use Rattle.messages.specs.declared.outcome.Outcome.{Outcome}
use Rattle.messages.specs.declared.outcome.Outcome.TheVariants.{Acked}
use Rattle.distributor_part.specs.declared.rules.Rules.{Rules}
use Rattle.op_machine.specs.declared.plan.Plan.{Plan}
use Rattle.op_machine.specs.declared.machine.Standing.{Standing}
use Rattle.op_machine.specs.declared.verdict.Verdict.TheVariants.{Ends}
use Rattle.op_machine.specs.Nodes.{first_node, count_nodes}
use Rattle.op_machine.specs.Judging.{looks, judged}
use Rattle.op_machine.specs.Outcomes.{Answers, answers_of, waits, counts, lacks, has_enough, has_active, absent_of, too_few, stored, read_verdict, verdict, reader, Finishes}
use Rattle.op_machine.specs.Standings.{next_at}
use Rattle.op_machine.proofs.NodeLaws.{first_node-all}
use Rattle.lane_journals.specs.Sets.{count}
use Rattle.lane_journals.specs.Buckets.{key_of}
use Rattle.lane_journals.specs.Readers.{Journal, Beginning, Preparing, wrote, answered_store, active}
use Rattle.lane_journals.specs.States.{state_of}
use Rattle.lane_journals.specs.Meanings.{history}
use Rattle.lane_journals.specs.KeptJournals.{IsLegal}
use Rattle.lane_journals.specs.declared.event.LaneEvent.{LaneEvent}
use Rattle.lane_journals.proofs.Meant.{meant-legal}
use Rattle.lane_keeping.specs.LaneKeeping.{setting_of}
use Rattle.operation_keeping.specs.OperationKeeping.{beginning_of, IsReadOf, IsStoreOf, WasShort, KnowsOperation}
use Rattle.operation_keeping.proofs.Counting.{small, enough-count, few-count, absent-lacks, active-absent, lacks-parts, some-told}
use Rattle.operation_keeping.proofs.Judged.{NextEnd, ByReads, ByStores, next-end, due-by, verdict-writes, ends-looks}
use Rattle.operation_keeping.proofs.Ending.{enough-read, unwritten-yet}
use Rattle.operation_keeping.proofs.Messages.{own-wrote}
use Rattle.line_outcomes.specs.Shortages.{IsTooFewOf, AreFewer}
use Rattle.line_outcomes.specs.Outcomes.{HasRead, HasLooked, EndsUnseen, EndsJudged, HasStored, IsAcknowledged, EndsStored, EndsUnstored, EndsWith}
use Rattle.line_outcomes.proofs.Shortages.{some-same, exactly-by, not-enough, few-told}
use Rattle.line_outcomes.proofs.Unprepared.{both, but, equal}

module _ (lane : Low) (rules : Rules) (J : List LaneEvent) (d : ℕ) (s : ClusterState) (line : ℕ) (row : Low) (written : Option Entry) (t : Standing)
    (legal : IsLegal (setting_of lane rules) J) (know : KnowsOperation lane rules J d s line row written t) where
  abbrev H : Journal
  H = history J

  abbrev p : Plan
  p = t.plan

  abbrev a : Answers
  a = answers_of t.reads

  abbrev c : Answers
  c = answers_of t.stores

  abbrev b : Beginning
  b = beginning_of d s p.operation p.stamp

  abbrev preparing : Preparing
  preparing = record { row = row; recipients = λ n. has_node p.recipients n }

  active-same : active s.version (key_of p.operation.id) H ≡ p.active
  active-same = (know.plan).active_is (key_of p.operation.id) (know.plan).inside

  -- once no recipient waits, each was told
  all-told : (x : Answers) → first_node (waits p x) ≡ None → (n : ℕ) → has_node p.recipients n ≡ true → x.told n ≡ true
  all-told x none n h = by_test (x.told n) refl
    where
      by_test : (u : Bool) → x.told n ≡ u → x.told n ≡ true
      by_test true e = e
      by_test false e = absurd (true≢false (sym (and_from (has_node p.recipients n) (not (x.told n)) h (ap not e)) ∙ first_node-all (waits p x) none n (small p.recipients n h)))

  -- too few of those that were asked
  module _ (x : Answers) (W : Type 0) (A : ℕ → Type 0) (told : (x.short ≡ true) ↔ W) (answered : (n : ℕ) → (x.answered n ≡ true) ↔ A n) where
    few : (n : ℕ) × (lacks p x n ≡ true) → IsTooFewOf W (λ n. (has_node p.recipients n ≡ true) × A n) rules.acks (λ n. (has_node p.recipients n ≡ true) × (A n → ⊥)) (active s.version (key_of p.operation.id) H) (too_few p x)
    few some = subst (λ (o : Option ℕ). IsTooFewOf W (λ n. (has_node p.recipients n ≡ true) × A n) rules.acks (λ n. (has_node p.recipients n ≡ true) × (A n → ⊥)) o (too_few p x)) (sym active-same)
        (subst (λ (k : ℕ). IsTooFewOf W (λ n. (has_node p.recipients n ≡ true) × A n) k (λ n. (has_node p.recipients n ≡ true) × (A n → ⊥)) p.active (too_few p x)) (know.plan).acks_are
        (few-told W (counts p x) (lacks p x) (λ n. (has_node p.recipients n ≡ true) × A n) (λ n. (has_node p.recipients n ≡ true) × (A n → ⊥))
        (λ n. both (has_node p.recipients n) (x.answered n) (A n) (answered n)) (λ n. but (has_node p.recipients n) (x.answered n) (A n) (answered n))
        (λ n h. small p.recipients n (and_parts (has_node p.recipients n) (not (x.answered n)) h).0) some p.acks p.active x.short told))

    fewer : has_enough p x ≡ false → AreFewer rules.acks (λ n. (has_node p.recipients n ≡ true) × A n)
    fewer h = (
      count_nodes (counts p x),
      exactly-by (counts p x) (λ n. (has_node p.recipients n ≡ true) × A n) (λ n. both (has_node p.recipients n) (x.answered n) (A n) (answered n)),
      subst (λ (k : ℕ). count_nodes (counts p x) < k) (know.plan).acks_are (few-count p x h),
    )

    lacking : has_enough p x ≡ false → (n : ℕ) × (lacks p x n ≡ true)
    lacking h = (absent_of p.active (lacks p x), absent-lacks p x (know.plan).is_plan (few-count p x h))

  -- ---- the Reads end it

  looked : looks p.operation ≡ true → reader p a ≡ None → wrote line H ≡ false → HasLooked J line p.operation b preparing
  looked look over unwritten = record {
    looks_at = look;
    all_asked = λ n h. ((know.reads).told n).0 (all-told a (sym (ap (λ (x : Bool). cond x (first_node (waits p a)) None) look) ∙ over) n h);
    unwritten = unwritten;
  }

  same-end : (x y : Outcome) → Ends x ≡ Ends y → x ≡ y
  same-end x y e = cc

  pub reads-end : (x : Outcome) → reader p a ≡ None → verdict p a ≡ Ends x → wrote line H ≡ false → EndsUnseen rules.acks J line p.operation b preparing x ⊎ EndsJudged rules.acks J line p.operation b preparing x
  reads-end x over v unwritten = by_looks (looks p.operation) refl v
    where
      by_enough : looks p.operation ≡ true → (z : Bool) → has_enough p a ≡ z → cond z (judged p.operation p.stamp a.seen) (Ends (too_few p a)) ≡ Ends x
          → EndsUnseen rules.acks J line p.operation b preparing x ⊎ EndsJudged rules.acks J line p.operation b preparing x
      by_enough look true e h = inr (record {
        looked = looked look over unwritten;
        enough = enough-read lane rules J d s line row written t legal know e;
        seen = a.seen;
        is_seen = record { newest = (know.reads).newest; shown = (know.reads).shown; written = λ y q. ((know.reads).written y q).1 };
        judged_so = h;
      })
      by_enough look false e h = inl (record {
        looked = looked look over unwritten;
        fewer = fewer a (WasShort H line (IsReadOf b)) (HasRead H line b) (know.reads).short (know.reads).answered e;
        few = subst (IsTooFewOf (WasShort H line (IsReadOf b)) (λ n. (has_node p.recipients n ≡ true) × HasRead H line b n) rules.acks (λ n. (has_node p.recipients n ≡ true) × (HasRead H line b n → ⊥)) (active s.version (key_of p.operation.id) H)) (same-end _ x h)
            (few a (WasShort H line (IsReadOf b)) (HasRead H line b) (know.reads).short (know.reads).answered (lacking a (WasShort H line (IsReadOf b)) (HasRead H line b) (know.reads).short (know.reads).answered e));
      })

      by_looks : (z : Bool) → looks p.operation ≡ z → cond z (read_verdict p a) (judged p.operation p.stamp None) ≡ Ends x → EndsUnseen rules.acks J line p.operation b preparing x ⊎ EndsJudged rules.acks J line p.operation b preparing x
      by_looks true e h = by_enough e (has_enough p a) refl h
      by_looks false e h = absurd (true≢false (sym (ends-looks p.operation p.stamp None x ((know.plan).is_plan).stamped h) ∙ e))

  -- ---- the Stores end it

  module _ (stamp : Stamp) (stamped : p.stamp ≡ Some stamp) (none : first_node (waits p c) ≡ None) where
    did : (n : ℕ) → (c.answered n ≡ true) ↔ (answered_store s.version p.operation.id stamp n H ≡ true)
    did n = equal _ _ ((know.stores).answered n stamp stamped)

    has-stored : HasStored J line b preparing stamp
    has-stored = record {
      stamped = stamped;
      written = (let x = some-told p c (know.plan).is_plan none in let w = ((know.stores).told x.0).0 x.1 in
          own-wrote rules.acks (state_of H) H (meant-legal (setting_of lane rules) J legal) line b w.stamp ((know.plan).is_under_way).begun_as w.stamped w.number w.message b.id w.was_sent w.body);
      all_sent = λ n h. ((know.stores).told n).0 (all-told c none n h);
    }

    acknowledged : has_enough p c ≡ true → has_active p.active c.answered ≡ true → IsAcknowledged rules.acks H b preparing stamp
    acknowledged enough active_too = record {
      enough = (
        counts p c,
        subst (λ (k : ℕ). k ≤ count (counts p c)) (know.plan).acks_are (enough-count p c enough),
        λ n h. (let x = and_parts (has_node p.recipients n) (c.answered n) h in (x.0, (did n).0 x.1)),
      );
      active_did = λ n is. (did n).0 (by_active n p.active (sym active-same ∙ is) active_too);
    }
      where
        by_active : (n : ℕ) (o : Option ℕ) → o ≡ Some n → has_active o c.answered ≡ true → c.answered n ≡ true
        by_active n None e h = absurd (cc)
        by_active n (Some m) e h = subst (λ (i : ℕ). c.answered i ≡ true) (some-same m n e) h

    unstored : (IsAcknowledged rules.acks H b preparing stamp → ⊥) → (n : ℕ) × (lacks p c n ≡ true) → EndsUnstored rules.acks J line b preparing (too_few p c)
    unstored un some = record { stamp = stamp; stored = has-stored; unacknowledged = un; few = few c (WasShort H line (IsStoreOf b)) (λ n. answered_store s.version p.operation.id stamp n H ≡ true) (know.stores).short did some }

    pub stores-end : EndsStored rules.acks J line b preparing (stored p c stamp) ⊎ EndsUnstored rules.acks J line b preparing (stored p c stamp)
    stores-end = by_tests (has_enough p c) (has_active p.active c.answered) refl refl
      where
        by_tests : (u v : Bool) → has_enough p c ≡ u → has_active p.active c.answered ≡ v
            → EndsStored rules.acks J line b preparing (cond (u && v) (Acked stamp) (too_few p c)) ⊎ EndsUnstored rules.acks J line b preparing (cond (u && v) (Acked stamp) (too_few p c))
        by_tests true true e f = inl (record { stamp = stamp; stored = has-stored; acknowledged = acknowledged e f; is = refl })
        by_tests true false e f =
            let x = active-absent p c p.active ((know.plan).is_plan).active f in
            let n = absent_of p.active (lacks p c) in
            inr (unstored (λ k. true≢false (sym ((did n).1 (k.active_did n (active-same ∙ x.0))) ∙ (lacks-parts p c n x.1).1)) (n, x.1))
        by_tests false v e f =
            let fewer-did = fewer c (WasShort H line (IsStoreOf b)) (λ n. answered_store s.version p.operation.id stamp n H ≡ true) (know.stores).short did e in
            inr (unstored (λ k. not-enough _ rules.acks fewer-did k.enough) (lacking c (WasShort H line (IsStoreOf b)) (λ n. answered_store s.version p.operation.id stamp n H ≡ true) (know.stores).short did e))

  -- ---- the end

  pub prepared-end : (from : Journal) (x : Outcome) → next_at t ≡ Finishes x → EndsWith rules.acks J line p.operation from s b (Some preparing) x
  prepared-end from x h = by_end (next-end t x h)
    where
      by_end : NextEnd t x → EndsWith rules.acks J line p.operation from s b (Some preparing) x
      by_end (ByReads over v) = elim (reads-end x over v (unwritten-yet lane rules J d s line row written t legal know written know.entry (due-by p a (Ends x) over v))) [ inl few ↦ inl few | inr judged_so ↦ inr (inl judged_so) ]
      by_end (ByStores e over v first is) = subst (λ (y : Outcome). EndsWith rules.acks J line p.operation from s b (Some preparing) y) (sym is) (inr (inr (stores-end e.stamp (verdict-writes p a e v).0 first)))

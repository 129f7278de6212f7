-- An operation is prepared, or ends before it is.
use Rattle.std.proofs.Common.{◌≡◌, ◌⊎◌, ℕ, ◌≤◌, Bool, true, false, List, [], ◌∷◌, Option, Some, None, inl, inr, refl, sym, ap, ◌∙◌, subst, eqb, eq-eqb}
use mathlib.Core.Bool.{true≢false}
use Rattle.bucket_ids.specs.Buckets.{Low}
use Rattle.node_sets.specs.Members.{has_node, size_of}
use Rattle.stamps.specs.declared.stamp.Stamp.{Stamp}
use Rattle.cluster_states.specs.declared.cluster_state.ClusterState.{ClusterState}
use Rattle.bucket_db.specs.declared.row.Row.{Row}
use Rattle.messages.specs.declared.operation.Operation.{Operation}
use Rattle.messages.specs.declared.outcome.Outcome.TheVariants.{TooFew}
use Rattle.distributor_part.specs.declared.rules.Rules.{Rules}
use Rattle.op_machine.specs.declared.plan.Plan.{Plan}
use Rattle.op_machine.specs.declared.machine.Standing.{Standing}
use Rattle.op_machine.specs.declared.tally.Tally.{Tally}
use Rattle.op_machine.specs.Outcomes.{answers_of}
use Rattle.op_machine.specs.Plans.{IsPlan, plan_of}
use Rattle.op_machine.specs.Standings.{IsBegun}
use Rattle.op_machine.specs.Telling.{IsNobody}
use Rattle.lane_journals.specs.Buckets.{contains, key_of}
use Rattle.lane_journals.specs.Events.{Content, ReadDoc, Store}
use Rattle.lane_journals.specs.Readers as readers
use Rattle.lane_journals.specs.Readers.{Beginning, Preparing, or_else, only_if, row_at, running, answered_store, before_line, sent}
use Rattle.lane_journals.specs.Facts.{ReadBack}
use Rattle.lane_journals.specs.Legal.{Legal}
use Rattle.lane_journals.specs.States.{state_of}
use Rattle.lane_journals.specs.Endings.{RoundFellShort, UnionFellShort, UnpreparedFellShort}
use Rattle.lane_journals.specs.Meanings.{history}
use Rattle.lane_journals.specs.Places.{Setting}
use Rattle.lane_journals.specs.KeptJournals.{IsLegal, IsLegalStep}
use Rattle.lane_journals.specs.declared.event.LaneEvent.{LaneEvent}
use Rattle.lane_journals.specs.declared.event.LaneEvent.TheVariants.{Prepared, Closed}
use Rattle.lane_journals.proofs.Meant.{meant-legal, state-serves}
use Rattle.lane_journals.proofs.Kept.{answered-took-op}
use Rattle.lane_keeping.specs.NodeKeeping.{stamp_of}
use Rattle.lane_keeping.specs.LaneKeeping.{setting_of}
use Rattle.lane_keeping.specs.Acting.{IsActing, IsKnownRow}
use Rattle.operation_keeping.specs.OperationKeeping.{beginning_of, KnowsPreparing, KnowsPlan, KnowsReads, KnowsStores, KnowsOperation}
use Rattle.op_machine.specs.Plans.{IsPlainGet}
use Rattle.operation_keeping.specs.Laws.{MayLackAnswers}
use Rattle.operation_keeping.proofs.Plain.{none-some}
use Rattle.operation_keeping.proofs.Counting.{size_of-is}
use Rattle.operation_keeping.proofs.Messages.{own-wrote, complete-serves, unread}

module _ (lane : Low) (rules : Rules) (J : List LaneEvent) (d : ℕ) (s : ClusterState) (line : ℕ) (o : Operation) (stamp : Option Stamp)
    (legal : IsLegal (setting_of lane rules) J) (know : KnowsPreparing lane (history J) d s line o stamp) where
  abbrev S : Setting
  S = setting_of lane rules

  abbrev b : Beginning
  b = beginning_of d s o stamp

  -- ---- it ends before

  short : (answered needed absent : ℕ) → UnpreparedFellShort S J line b answered needed absent → IsLegalStep S J (Closed line (TooFew answered needed absent))
  short answered needed absent cause = record {
    noted = tt;
    permitted = record { begin = b; begun = (know.is_under_way).begun_as; unclosed = (know.is_under_way).unclosed; acked = λ h. absurd (true≢false (sym h)) };
    placed = tt;
    ended = (b, (know.is_under_way).begun_as, inl (record { unprepared = know.unprepared; moment = J; later = []; whole = refl; begun = (know.is_under_way).begun_as; short = cause }));
  }

  pub ends-opening : (answered needed absent : ℕ) → MayLackAnswers J s.version answered needed absent → IsLegalStep S J (Closed line (TooFew answered needed absent))
  ends-opening answered needed absent lacks = short answered needed absent (record { unprepared = know.unprepared; short = inl (lacks.unopened, lacks.short) })

  pub ends-round : (row : Low) (answered needed absent : ℕ) → row_at s.version (key_of o.id) (history J) ≡ Some row
      → RoundFellShort (history J) s.version row answered needed absent ⊎ UnionFellShort S J s.version (key_of o.id) row answered needed absent → IsLegalStep S J (Closed line (TooFew answered needed absent))
  ends-round row answered needed absent at cause = short answered needed absent (record { unprepared = know.unprepared; short = inr (row, at, cause) })

  -- ---- it is prepared

  module _ (row : Row) (known : IsKnownRow s.version (history J) row) (inside : contains row.bucket (key_of o.id) ≡ true) where
    pub prepares : rules.acks ≤ size_of row.complete → running s.version row.bucket (history J) ≡ false → IsLegalStep S J (Prepared line row.bucket row.complete)
    prepares enough quiet = record {
      noted = tt;
      permitted = record {
        begin = b;
        begun = (know.is_under_way).begun_as;
        fresh = know.unprepared;
        unclosed = (know.is_under_way).unclosed;
        row = known.is_row;
        inside = inside;
        no_round = quiet;
        recipients = λ n key h. sym (known.members n key h);
        enough = subst (λ (x : ℕ). rules.acks ≤ x) (size_of-is row.complete) enough;
      };
      placed = tt;
      ended = tt;
    }

    abbrev plan : Plan
    plan = plan_of (record { version = s.version; lane = lane.low; sender = d }) o stamp row.complete row.active rules.acks

    abbrev K : List LaneEvent
    K = Prepared line row.bucket row.complete ∷ J

    module _ (acts : IsActing lane J d s) (plain : IsPlainGet o) (is_plan : IsPlan plan) where
      lawful : Legal rules.acks (state_of (history J)) (history J)
      lawful = meant-legal S J legal

      planned : KnowsPlan lane rules (history K) d s line row.bucket plan
      planned = record {
        origin_is = refl;
        acks_are = refl;
        is_plan = is_plan;
        plain = plain;
        is_under_way = know.is_under_way;
        prepared_as = ap (λ (x : Option Preparing). or_else x (only_if (eqb line line) (record { row = row.bucket; recipients = λ n. has_node row.complete n }))) know.unprepared
            ∙ ap (λ (x : Bool). only_if x (record { row = row.bucket; recipients = λ n. has_node row.complete n })) (eq-eqb line line refl);
        fits = (known.is_row).fits;
        opened_is = (known.is_row).opened;
        row_is = (known.is_row).row;
        inside = inside;
        members = λ n key h c. sym (known.members n key h) ∙ c;
        active_is = known.active_is;
        serving = λ n h. sym (state-serves S J legal s.version n s acts.published) ∙ complete-serves rules.acks (state_of (history J)) (history J) lawful s.version n (key_of o.id) (known.members n (key_of o.id) inside ∙ h);
      }

      never-read : (k : ℕ) (m : readers.Message) → sent k (history J) ≡ Some m → sent k (before_line line (history J)) ≡ None → m.body ≡ ReadDoc o.id → ⊥
      never-read k m was_sent later body = unread rules.acks (state_of (history J)) is_plan.some (history J) lawful line k b m (know.is_under_way).begun_as (know.is_under_way).unclosed know.unprepared was_sent later body

      never-stored : (z : Stamp) → stamp ≡ Some z → (k : ℕ) (m : readers.Message) → sent k (history J) ≡ Some m → m.body ≡ Store o.id z → ⊥
      never-stored z e k m was_sent body = true≢false (sym (own-wrote rules.acks (state_of (history J)) (history J) lawful line b z (know.is_under_way).begun_as e k m o.id was_sent body) ∙ know.unwritten)

      not-back : (n : ℕ) (c : Content) → ReadBack n line b c (history K) → ⊥
      not-back n c r = let w = r.read in never-read w.number w.message w.was_sent w.later w.body

      unanswered : (n : ℕ) (t : Stamp) → stamp ≡ Some t → answered_store s.version o.id t n (history J) ≡ false
      unanswered n t e = by_test (answered_store s.version o.id t n (history J)) refl
        where
          by_test : (x : Bool) → answered_store s.version o.id t n (history J) ≡ x → x ≡ false
          by_test false f = refl
          by_test true f = let w = answered-took-op (history J) s.version o.id t n f in absurd (never-stored t e w.number w.message w.was_sent w.body)

      untold-reads : (x : Tally) → IsNobody x → KnowsReads K None line b (answers_of x)
      untold-reads x none = record {
        short = (λ h. absurd (true≢false (sym h ∙ none.short)), λ w. absurd (never-read w.number w.message w.was_sent w.later (w.tested).1));
        told = λ n. (λ h. absurd (true≢false (sym h ∙ none.told n)), λ w. absurd (never-read w.number w.message w.was_sent w.later w.body));
        answered = λ n. (λ h. absurd (true≢false (sym h ∙ none.answered n)), λ r. absurd (not-back n r.0 r.1));
        newest = λ n c r. absurd (not-back n c r);
        shown = λ z e. absurd (none-some z (sym (ap stamp_of none.seen) ∙ e));
        written = λ e q. absurd (none-some e (sym none.seen ∙ q));
      }

      untold-stores : (x : Tally) → IsNobody x → KnowsStores (history K) None line b (answers_of x)
      untold-stores x none = record {
        told = λ n. (λ h. absurd (true≢false (sym h ∙ none.told n)), λ w. absurd (never-stored w.stamp w.stamped w.number w.message w.was_sent w.body));
        answered = λ n t e. none.answered n ∙ sym (unanswered n t e);
        unstamped = λ n e. none.answered n;
        short = (λ h. absurd (true≢false (sym h ∙ none.short)), λ w. absurd (never-stored ((w.tested).1).0 ((w.tested).1).1 w.number w.message w.was_sent ((w.tested).1).2));
      }

      pub knows-prepared : (t : Standing) → IsBegun plan t → KnowsOperation lane rules K d s line row.bucket None t
      knows-prepared t begun = record {
        plan = subst (λ (x : Plan). KnowsPlan lane rules (history K) d s line row.bucket x) (sym begun.plan) planned;
        entry = know.unwritten;
        looking = λ n h. absurd (true≢false (sym h ∙ (begun.reads).told n));
        reads = subst (λ (x : Plan). KnowsReads K None line (beginning_of d s x.operation x.stamp) (answers_of t.reads)) (sym begun.plan) (untold-reads t.reads begun.reads);
        stores = subst (λ (x : Plan). KnowsStores (history K) None line (beginning_of d s x.operation x.stamp) (answers_of t.stores)) (sym begun.plan) (untold-stores t.stores begun.stores);
      }

-- How an operation is prepared in the row of its key.
use Rattle.std.proofs.Common.{◌≡◌, ◌+◌, ◌≤◌, ℕ, true, false, Bool, List, ◌∷◌, Option, None, Some, IsSome, slice_get, slice_set, length, eqb, eq-eqb, inl, inr, refl, sym, ap, subst, ◌∙◌, vec_len, vec_capacity, arith}
use Rattle.bucket_ids.specs.Buckets.{IsIn}
use Rattle.cluster_states.specs.declared.cluster_state.ClusterState.{ClusterState}
use Rattle.bucket_db.specs.Rows.{Rows}
use Rattle.bucket_db.specs.declared.row.Row.{Row}
use Rattle.messages.specs.declared.message.Origin.{Origin}
use Rattle.distributor_part.specs.Steps.{IsRowOf}
use Rattle.op_machine.specs.declared.machine.Standing.{Standing}
use Rattle.op_machine.specs.Plans.{IsPlan, IsMember, plan_of}
use Rattle.op_machine.specs.Standings.{IsBegun}
use Rattle.lane_journals.specs.Buckets.{contains, key_of}
use Rattle.lane_journals.specs.Meanings.{history}
use Rattle.lane_journals.specs.declared.event.LaneEvent.TheVariants.{Prepared}
use Rattle.lane_journals.specs.ActiveCopies.{ActiveIsComplete}
use Rattle.lane_keeping.specs.Acting.{IsKnownRow}
use Rattle.operation_keeping.specs.OperationKeeping.{IsUnderWay, KnowsPreparing, KnowsOperation}
use Rattle.operation_keeping.specs.Left.{messages_left}
use Rattle.operation_keeping.specs.Wants.{WantsSince, Adds}
use Rattle.lane_core.specs.declared.work.Job.{Job}
use Rattle.lane_core.specs.declared.work.Phase.TheVariants as phase
use Rattle.lane_states.specs.declared.lane_state.LaneState.{LaneState}
use Rattle.lane_core.specs.declared.work.Work.{Work}
use Rattle.lane_states.specs.LaneStates.{journal_of, part_of, IsKept}
use Rattle.lane_core.specs.Works.{IsWork, IsJob, IsItsRow, PhaseLasts, AreJobs, room_for}
use Rattle.lane_core.proofs.Places.{set-length}
use Rattle.lane_core.proofs.JobLists.{jobs-set, off-line}
use Rattle.operation_keeping.specs.Others.{Same, More}
use Rattle.lane_keeping.specs.LaneKeeping.{setting_of}
use Rattle.lane_journals.specs.Readers.{Journal, Preparing, or_else, only_if, prepared}
use Rattle.lane_journals.specs.KeptJournals.{IsLegal}
use Rattle.lane_journals.specs.declared.event.LaneEvent.{LaneEvent}
use Rattle.node_sets.specs.Members.{has_node}
use Rattle.lane_lines.specs.Readying.{HasRowWith}
use Rattle.lane_core.specs.Preparations.{IsReadyFor}
use Rattle.stamps.specs.Places.{place_of}
use Rattle.lane_lines.proofs.Entries.{finds-noted}
use Rattle.lane_core.proofs.Working.{same-key, work-by}
use Rattle.lane_states.proofs.SameStates.{same-state}

module _ (x : Work) (at : ℕ) (j : Job) (k : IsWork x) (found : slice_get x.jobs.items at ≡ Some j) (r : IsReadyFor x.state j) where
  pub job-of : IsJob x.state.lane x.state.rules (journal_of x.state) j
  job-of = (k.jobs_are).each at j found

  under : IsUnderWay x.state.lane (history (journal_of x.state)) j.distributor r.state j.line j.operation j.stamp
  under = subst (λ (s : ClusterState). IsUnderWay x.state.lane (history (journal_of x.state)) j.distributor s j.line j.operation j.stamp)
      (same-state x.state.lane (journal_of x.state) j.distributor job-of.state r.state job-of.acting r.acting) job-of.under_way

  pub preparing : KnowsPreparing x.state.lane (history (journal_of x.state)) j.distributor r.state j.line j.operation j.stamp
  preparing = record { is_under_way = under; unprepared = r.unprepared; unwritten = r.unwritten }

  pub key-there : IsIn x.state.lane j.key
  key-there = subst (λ (n : ℕ). IsIn x.state.lane n) (sym (job-of.key_is ∙ same-key j.operation.id)) job-of.key_in

  module _ (row : Row) where
    fit_by : (o : Option Rows) → (part_of x.state j.distributor).rows ≡ o → HasRowWith o j.key row
        → ((rows : Rows) (key at : ℕ) (y : Row) → (part_of x.state j.distributor).rows ≡ Some rows → IsRowOf rows key at y → IsKnownRow r.state.version (history (journal_of x.state)) y)
        → ((rows : Rows) (key at : ℕ) (y : Row) → IsRowOf rows key at y → contains y.bucket key ≡ true)
        → IsKnownRow r.state.version (history (journal_of x.state)) row × (contains row.bucket (key_of j.operation.id) ≡ true)
    fit_by None e h known inside = absurd h
    fit_by (Some d) e h known inside = (
      known d j.key h.0 row e h.1,
      subst (λ (n : ℕ). contains row.bucket n ≡ true) (job-of.key_is ∙ same-key j.operation.id) (inside d j.key h.0 row h.1),
    )

    pub fit-row : HasRowWith (part_of x.state j.distributor).rows j.key row
        → ((rows : Rows) (key at : ℕ) (y : Row) → (part_of x.state j.distributor).rows ≡ Some rows → IsRowOf rows key at y → IsKnownRow r.state.version (history (journal_of x.state)) y)
        → ((rows : Rows) (key at : ℕ) (y : Row) → IsRowOf rows key at y → contains y.bucket key ≡ true)
        → IsKnownRow r.state.version (history (journal_of x.state)) row × (contains row.bucket (key_of j.operation.id) ≡ true)
    fit-row h known inside = fit_by (part_of x.state j.distributor).rows refl h known inside

    module _ (known : IsKnownRow r.state.version (history (journal_of x.state)) row) (inside : contains row.bucket (key_of j.operation.id) ≡ true) where
      by_active : (o : Option ℕ) → row.active ≡ o → ActiveIsComplete (history (journal_of x.state)) → IsMember o row.complete
      by_active None e all = tt
      by_active (Some n) e all = sym (known.members n (key_of j.operation.id) inside) ∙ all r.state.version (key_of j.operation.id) n (known.active_is (key_of j.operation.id) inside ∙ e)

      pub fit-plan : (origin : Origin) → ActiveIsComplete (history (journal_of x.state)) → IsPlan (plan_of origin j.operation j.stamp row.complete row.active x.state.rules.acks)
      fit-plan origin all = record {
        some = k.set_up.acked;
        enough = r.enough row known inside;
        active = by_active row.active refl all;
        stamped = r.stamped;
        own = job-of.own;
      }

      pub fit-wanted : (from : Journal) → WantsSince x.state.lane x.state.rules j.line j.operation from (journal_of x.state) (Adds (Prepared j.line row.bucket row.complete))
      fit-wanted from = record {
        distributor = j.distributor;
        state = r.state;
        stamp = j.stamp;
        acting = r.acting;
        under_way = under;
        wants = inl (
          r.unprepared,
          inr (inr (inr (inl (record {
            row = row;
            has_row = record { known = known; inside = inside; no_round = k.no_round r.state.version row.bucket };
            enough = r.enough row known inside;
            is = refl;
          })))),
        );
      }

      abbrev K : List LaneEvent
      K = Prepared j.line row.bucket row.complete ∷ journal_of x.state

      prepared-here : prepared j.line (history K) ≡ Some (record { row = row.bucket; recipients = λ n. has_node row.complete n })
      prepared-here = ap (λ (z : Option Preparing). or_else z (only_if (eqb j.line j.line) (record { row = row.bucket; recipients = λ n. has_node row.complete n }))) r.unprepared
          ∙ ap (λ (b : Bool). only_if {A = Preparing} b (record { row = row.bucket; recipients = λ n. has_node row.complete n })) (eq-eqb j.line j.line refl)

      pub there-now : IsSome (prepared j.line (history K))
      there-now = subst (λ (z : Option Preparing). IsSome z) (sym prepared-here) refl

      module _ (few : (u : Standing) → messages_left u ≤ 64) (t : Standing) (origin : Origin) (begun : IsBegun (plan_of origin j.operation j.stamp row.complete row.active x.state.rules.acks) t)
          (operation : KnowsOperation x.state.lane x.state.rules K j.distributor r.state j.line row.bucket None t) where
        abbrev now : Job
        now = record j { row = Some row.bucket; phase = phase.Prepared t row.bucket false }

        job-now : IsJob x.state.lane x.state.rules K now
        job-now = record {
          state = r.state;
          acting = record { holds = r.acting.holds; published = r.acting.published; owner = r.acting.owner };
          under_way = under;
          key_is = job-of.key_is;
          key_in = job-of.key_in;
          own = job-of.own;
          plain = job-of.plain;
          row_is = subst (IsItsRow (Some row.bucket)) (sym prepared-here) refl;
          phase_is = record {
            entry = None;
            stands = record { knows = operation; operation_is = ap (λ p. p.operation) begun.plan };
            same_stamp = ap (λ p. p.stamp) begun.plan;
            written_is = refl;
          };
        }

        lasts-now : PhaseLasts j.left (phase.Prepared t row.bucket false)
        lasts-now = (let much = r.lasts in omega (arith, much), (let much = r.lasts in let most = few t in omega (arith, much, most)))

        pub jobs-fit : IsLegal (setting_of x.state.lane x.state.rules) K → AreJobs x.state.lane x.state.rules K (slice_set x.jobs.items at now)
        jobs-fit legal = jobs-set x.state.lane x.state.rules (journal_of x.state) K x.jobs.items k.jobs_are ((k.kept).keeps).legal legal at j found now refl refl job-now lasts-now
            (λ b m got off. More (Prepared j.line row.bucket row.complete) (journal_of x.state) Same (off-line x.state.lane x.state.rules (journal_of x.state) K x.jobs.items k.jobs_are ((k.kept).keeps).legal legal at j found b m got off))
            (λ l. refl) (λ l. refl)

        pub fit-work : (w : Work) → w.jobs.items ≡ slice_set x.jobs.items at now → w.drawn ≡ x.drawn → w.places ≡ x.places → w.has_room ≡ x.has_room → w.state ≡ record x.state { journal = w.state.journal } → IsKept w.state
            → journal_of w.state ≡ K → vec_len w.state.journal.events + 0 + x.state.spare ≤ vec_capacity w.state.journal.events → IsWork w
        fit-work w put drawn places has after kept grows room =
            let lane : w.state.lane ≡ x.state.lane = ap (λ (z : LaneState). z.lane) after in
            let rules : w.state.rules ≡ x.state.rules = ap (λ (z : LaneState). z.rules) after in
            let newest : w.state.newest ≡ x.state.newest = ap (λ (z : LaneState). z.newest) after in
            let parts : w.state.parts ≡ x.state.parts = ap (λ (z : LaneState). z.parts) after in
            let spare : w.state.spare ≡ x.state.spare = ap (λ (z : LaneState). z.spare) after in
            let legal : IsLegal (setting_of x.state.lane x.state.rules) K = rw (lane, rules, grows) at kept.keeps.legal in
            work-by w K (rw (lane, rules) k.set_up) kept (omega (arith, spare, room))
            (spare ∙ k.spare_is ∙ ap (λ (b : Bool). room_for b + length x.jobs.items) (sym has) ∙ ap (λ (n : ℕ). room_for w.has_room + n) (sym (ap length put ∙ set-length x.jobs.items at now)))
            (λ made. rw parts (k.parted (sym has ∙ made)))
            (λ made. ap (λ (z : LaneState). z.turn_room) after ∙ k.placed (sym has ∙ made))
            (λ d. rw (lane, rules, parts) (k.resting d)) grows
            (rw (lane, rules, newest, put, drawn) (record {
              newest_is = k.newest_is;
              counts_are = k.counts_are;
              no_round = k.no_round;
              jobs_are = jobs-fit legal;
            }))
            (rw places (finds-noted (place_of x.places) x.state.journal.events.items (Prepared j.line row.bucket row.complete) refl k.finds))

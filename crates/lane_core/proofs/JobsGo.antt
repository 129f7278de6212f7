-- The operation under way after a call, and the work of its lane.
use Rattle.std.proofs.Common.{◌≡◌, ◌≤◌, ◌+◌, ◌-◌, ℕ, Bool, List, Option, None, Some, refl, sym, ap, ◌∙◌, subst, arith, vec_len, length, slice_get, slice_set, IsSome, inl, inr}
use Rattle.bucket_ids.specs.Buckets.{Low, IsIn}
use Rattle.global_ids.specs.Keys as keys
use Rattle.lane_journals.specs.Buckets.{key_of}
use Rattle.node_sets.specs.Members.{has_node}
use Rattle.stamps.specs.declared.stamp.Stamp.{Stamp}
use Rattle.cluster_states.specs.declared.cluster_state.ClusterState.{ClusterState}
use Rattle.carriers.specs.declared.fate.Fate.{Fate}
use Rattle.documents.specs.declared.entry.Entry.{Entry}
use Rattle.messages.specs.declared.body.Body.{Body}
use Rattle.messages.specs.declared.body.Body.TheVariants as body
use Rattle.messages.specs.declared.message.Message.{Message}
use Rattle.messages.specs.declared.operation.Operation.{Operation}
use Rattle.messages.specs.declared.outcome.Outcome.{Outcome}
use Rattle.messages.specs.declared.outcome.Outcome.TheVariants as outcome
use Rattle.op_machine.specs.declared.plan.Plan.{Plan}
use Rattle.op_machine.specs.declared.machine.Standing.{Standing}
use Rattle.op_machine.specs.Outcomes.{Next, Asks, Finishes}
use Rattle.op_machine.specs.Standings.{next_at}
use Rattle.distributor_part.specs.declared.rules.Rules.{Rules}
use Rattle.lane_journals.specs.Readers.{Journal, Preparing, prepared, answered_store}
use Rattle.lane_journals.specs.Meanings.{history}
use Rattle.lane_journals.specs.KeptJournals.{IsLegal, IsLegalStep}
use Rattle.lane_journals.specs.declared.event.LaneEvent.{LaneEvent}
use Rattle.lane_journals.specs.declared.event.LaneEvent.TheVariants.{Closed, Wrote}
use Rattle.lane_keeping.specs.LaneKeeping.{setting_of}
use Rattle.lane_keeping.specs.Replaying.{sending}
use Rattle.lane_keeping.specs.Acting.{IsActing}
use Rattle.operation_keeping.specs.OperationKeeping.{IsUnderWay, KnowsOperation}
use Rattle.operation_keeping.specs.Laws.{OfOperation, IsAckedAs}
use Rattle.operation_keeping.specs.Left.{messages_left}
use Rattle.operation_keeping.specs.Wants.{Adds, Ends, WantsSince, IsRunSince, IsEndSince, BodyGives, NextGives}
use Rattle.operation_keeping.proofs.Since.{run-begins, run-closes, run-prepared}
use Rattle.operation_keeping.proofs.OthersRuns.{run-others}
use Rattle.lane_core.proofs.Places.{get-map, set-length}
use Rattle.lane_core.proofs.JobLists.{jobs-set, off-line, off-document}
use Rattle.lane_core.proofs.Working.{IsOnward, work-set, value_as, value-as}
use Rattle.lane_calls.specs.declared.progress.Progress.TheVariants as progress
use Rattle.lane_states.specs.declared.lane_state.LaneState.{LaneState}
use Rattle.lane_core.specs.declared.work.Job.{Job}
use Rattle.lane_core.specs.declared.work.Phase.{Phase}
use Rattle.lane_core.specs.declared.work.Phase.TheVariants as phase
use Rattle.lane_calls.specs.declared.answers.Advance.{Advance}
use Rattle.lane_calls.specs.declared.answers.Advance.TheVariants as advance
use Rattle.lane_core.specs.declared.work.Work.{Work}
use Rattle.lane_states.specs.LaneStates.{journal_of, IsKept, HasRoom, AreResting}
use Rattle.lane_core.proofs.Giving.{gives_few}
use Rattle.lane_calls.specs.LaneValues.{LaneValue, with_run, under_way_of}
use Rattle.lane_core.specs.Advancing.{IsFree, WentOn, Advances, AdvancesAt}
use Rattle.stamps.specs.Places.{place_of}
use Rattle.lane_states.specs.Written.{FindsEntries}
use Rattle.lane_core.specs.Works.{value_of, under_way_at, progress_of, IsItsRow, IsAnswered, MayMark, IsPrepared, PhaseKeeps, IsJob, PhaseLasts, AreJobs, IsWork}
use Rattle.lane_lines.specs.Steps.{sender_of, StandsIn, GoesIn, RunsIn, GivesOne, GivesFew, IsUneventful}
use Rattle.lane_core.specs.Phases.{WantsMore, WantsEnd, ComesTo, OfPrepared, IsAtMessages}

-- ---- whose it is

pub record IsOf (j : Job) (p : Plan) : Type 0 where
  pub sender : p.origin.sender ≡ j.distributor
  pub operation : p.operation ≡ j.operation
  pub stamp : p.stamp ≡ j.stamp

pub of-prepared : (lane : Low) (rules : Rules) (J : List LaneEvent) (j : Job) (s : ClusterState) (row : Low) (written : Bool) (t : Standing) → IsPrepared lane rules J j s row written t → IsOf j t.plan
of-prepared lane rules J j s row written t k = record {
  sender = ap (λ o. o.sender) (((k.stands).knows).plan).origin_is;
  operation = (k.stands).operation_is;
  stamp = k.same_stamp;
}

-- the key of its document is the job's
pub key-prepared : (w : Work) (at : ℕ) (j : Job) (row : Low) (written : Bool) (t : Standing) → IsWork w → slice_get w.jobs.items at ≡ Some j → j.phase ≡ phase.Prepared t row written → j.key ≡ keys.key_of t.plan.operation.id
key-prepared w at j row written t k found stage = job.key_is ∙ ap (λ (o : Operation). keys.key_of o.id) (sym of.operation)
  where
    job : IsJob w.state.lane w.state.rules (journal_of w.state) j
    job = (k.jobs_are).each at j found

    of : IsOf j t.plan
    of = of-prepared w.state.lane w.state.rules (journal_of w.state) j job.state row written t (subst (λ (q : Phase). PhaseKeeps w.state.lane w.state.rules (journal_of w.state) j job.state q) stage job.phase_is)

of-same : (j : Job) (p q : Plan) → q ≡ p → IsOf j p → IsOf j q
of-same j p q e k = subst (λ (r : Plan). IsOf j r) (sym e) k

module _ (lane : Low) (rules : Rules) (J : List LaneEvent) (j : Job) (p : Plan) (of : IsOf j p) where
  acts : (s : ClusterState) → IsActing lane J p.origin.sender s → IsActing lane J j.distributor s
  acts s a = subst (λ (d : ℕ). IsActing lane J d s) of.sender a

  goes : (s : ClusterState) → IsUnderWay lane (history J) p.origin.sender s j.line p.operation p.stamp → IsUnderWay lane (history J) j.distributor s j.line j.operation j.stamp
  goes s u = subst (λ (d : ℕ). IsUnderWay lane (history J) d s j.line j.operation j.stamp) of.sender
      (subst (λ (o : Operation). IsUnderWay lane (history J) p.origin.sender s j.line o j.stamp) of.operation
      (subst (λ (t : Option Stamp). IsUnderWay lane (history J) p.origin.sender s j.line p.operation t) of.stamp u))

-- ---- how it may end

may-mark : (H : Journal) (j : Job) (s : ClusterState) (answered : ℕ) (o : Outcome) → ((stamp : Stamp) → o ≡ outcome.Acked stamp → IsAnswered H j s stamp answered) → MayMark H j s answered o
may-mark H j s answered (outcome.Acked stamp) f = f stamp refl
may-mark H j s answered (outcome.Nothing x) f = tt
may-mark H j s answered (outcome.Found x) f = tt
may-mark H j s answered (outcome.Missing x) f = tt
may-mark H j s answered (outcome.ConditionFailed x) f = tt
may-mark H j s answered (outcome.BadUpdate x) f = tt
may-mark H j s answered (outcome.TooFew a b x) f = tt
may-mark H j s answered (outcome.OwnedElsewhere a b) f = tt
may-mark H j s answered outcome.NoMemory f = tt

-- ---- the event of its next message

next-event : (line : ℕ) (written : Option Entry) (m : Message) (b : Body) → (e : LaneEvent) × BodyGives line written m b e
next-event line (Some w) m b = (sending 0 m, (0, refl))
next-event line None m (body.Store entry) = (Wrote line entry, refl)
next-event line None m body.Ask = (sending 0 m, (0, refl))
next-event line None m (body.Read b only) = (sending 0 m, (0, refl))
next-event line None m (body.Apply b entries) = (sending 0 m, (0, refl))
next-event line None m (body.Delete b serial) = (sending 0 m, (0, refl))
next-event line None m (body.Split b) = (sending 0 m, (0, refl))
next-event line None m (body.Join b) = (sending 0 m, (0, refl))
next-event line None m (body.Ready b) = (sending 0 m, (0, refl))
next-event line None m (body.Activate b) = (sending 0 m, (0, refl))

module _ (c : LaneState) (j : Job) (row : Low) (t : Standing) (of : IsOf j t.plan) where
  abbrev K : List LaneEvent
  K = journal_of c

  -- the line wants the event of its next message, wherever it looks back to
  pub more-wanted : (from : Journal) (written : Bool) (x : Standing) → WantsMore c j.line row written t x → (e : LaneEvent) × WantsSince c.lane c.rules j.line j.operation from K (Adds e)
  more-wanted from written x w =
      let st = w.stands in
      let by : IsOf j x.plan = of-same j t.plan x.plan w.same_plan of in
      let next = next-event j.line st.entry w.message (w.message).body in (
        next.0,
        record {
          distributor = j.distributor;
          state = st.state;
          stamp = j.stamp;
          acting = acts c.lane c.rules K j x.plan by st.state st.acting;
          under_way = goes c.lane c.rules K j x.plan by st.state (((st.stands).knows).plan).is_under_way;
          wants = inr (record {
            row = row;
            written = st.entry;
            standing = x;
            stands = record { knows = subst (λ (d : ℕ). KnowsOperation c.lane c.rules K d st.state j.line row st.entry x) by.sender (st.stands).knows; operation_is = by.operation };
            gives = subst (λ (n : Next). NextGives j.line st.entry n (Adds next.0)) (sym w.next) next.1;
          });
        },
      )

-- ---- the job after a call

module _ (c : LaneState) (j : Job) (left : ℕ) (row : Low) (t : Standing) (of : IsOf j t.plan)
    (others : (q : Phase) (s : ClusterState) → IsActing c.lane (journal_of c) j.distributor s → IsUnderWay c.lane (history (journal_of c)) j.distributor s j.line j.operation j.stamp
    → PhaseKeeps c.lane c.rules (journal_of c) (record j { left = left; phase = q }) s q → IsJob c.lane c.rules (journal_of c) (record j { left = left; phase = q }))
    (ends : (s : ClusterState) (row : Low) (x : Standing) (o : Outcome) (entry : _) → KnowsOperation c.lane c.rules (journal_of c) (sender_of x) s j.line row entry x → next_at x ≡ Finishes o → IsLegalStep (setting_of c.lane c.rules) (journal_of c) (Closed j.line o))
    (acked : (s : ClusterState) (row : Low) (x : Standing) (stamp : Stamp) (entry : _) → KnowsOperation c.lane c.rules (journal_of c) (sender_of x) s j.line row entry x → next_at x ≡ Finishes (outcome.Acked stamp) → IsAckedAs (history (journal_of c)) (sender_of x) s j.line x stamp) where
  abbrev J : List LaneEvent
  J = journal_of c

  job-more : (written : Bool) (x : Standing) → WantsMore c j.line row written t x → IsJob c.lane c.rules J (record j { left = left; phase = phase.Prepared x row written })
  job-more written x w =
      let st = w.stands in
      let by : IsOf j x.plan = of-same j t.plan x.plan w.same_plan of in
      others (phase.Prepared x row written) st.state (acts c.lane c.rules J j x.plan by st.state st.acting) (goes c.lane c.rules J j x.plan by st.state (((st.stands).knows).plan).is_under_way)
      (record {
        entry = st.entry;
        stands = record { knows = subst (λ (d : ℕ). KnowsOperation c.lane c.rules J d st.state j.line row st.entry x) by.sender (st.stands).knows; operation_is = by.operation };
        same_stamp = by.stamp;
        written_is = st.written_is;
      })

  job-over : (o told : Outcome) (answered : ℕ) → WantsEnd c j.line row t o told answered → IsJob c.lane c.rules J (record j { left = left; phase = phase.Over o told answered })
  job-over o told answered w =
      let st = w.stands in
      let x = w.standing in
      let by : IsOf j x.plan = of-same j t.plan x.plan w.same_plan of in
      let acting = acts c.lane c.rules J j x.plan by st.state st.acting in
      let under_way = goes c.lane c.rules J j x.plan by st.state (((st.stands).knows).plan).is_under_way in
      others (phase.Over o told answered) st.state acting under_way
      (record {
        same = w.same;
        legal = ends st.state row x o st.entry (st.stands).knows w.finished;
        marks = may-mark (history J) (record j { left = left; phase = phase.Over o told answered }) st.state answered o (λ stamp is. marks stamp is by);
      })
    where
      marks : (stamp : Stamp) → o ≡ outcome.Acked stamp → IsOf j (w.standing).plan → IsAnswered (history J) (record j { left = left; phase = phase.Over o told answered }) (w.stands).state stamp answered
      marks stamp is by =
          let x = w.standing in
          let a = acked (w.stands).state row x stamp (w.stands).entry ((w.stands).stands).knows (w.finished ∙ ap Finishes is) in
          record {
            stamped = sym by.stamp ∙ a.stamped;
            opened_is = ((((w.stands).stands).knows).plan).opened_is;
            answers = λ n full. ap (λ (z : ℕ). has_node z n) w.answered_is ∙ a.answered n ∙ ap (λ (o : Operation). answered_store (w.stands).state.version o.id stamp n (history J)) by.operation;
          }

  -- the line wants that end, wherever it looks back to
  pub over-wanted : (from : Journal) (o told : Outcome) (answered : ℕ) → WantsEnd c j.line row t o told answered → IsEndSince c.lane c.rules j.line j.operation from J o
  over-wanted from o told answered w =
      let st = w.stands in
      let x = w.standing in
      let by : IsOf j x.plan = of-same j t.plan x.plan w.same_plan of in
      record {
        distributor = j.distributor;
        state = st.state;
        stamp = j.stamp;
        acting = acts c.lane c.rules J j x.plan by st.state st.acting;
        under_way = goes c.lane c.rules J j x.plan by st.state (((st.stands).knows).plan).is_under_way;
        wants = inr (record {
          row = row;
          written = st.entry;
          standing = x;
          stands = record { knows = subst (λ (d : ℕ). KnowsOperation c.lane c.rules J d st.state j.line row st.entry x) by.sender (st.stands).knows; operation_is = by.operation };
          gives = subst (λ (n : Next). NextGives j.line st.entry n (Ends o)) (sym w.finished) refl;
        });
      }

  job-short : GoesIn c j.line t.plan → IsJob c.lane c.rules J (record j { left = left; phase = phase.Short })
  job-short g = others phase.Short g.state (acts c.lane c.rules J j t.plan of g.state g.acting) (goes c.lane c.rules J j t.plan of g.state g.under_way) tt

  pub job-by : (p : Phase) (a : Advance) → ComesTo c j.line row t p a → GoesIn c j.line t.plan → IsJob c.lane c.rules J (record j { left = left; phase = p })
  job-by (phase.Prepared x r written) advance.More h g = subst (λ (b : Low). IsJob c.lane c.rules J (record j { left = left; phase = phase.Prepared x b written })) (sym h.0) (job-more written x h.1)
  job-by (phase.Over o told answered) advance.Done h g = job-over o told answered h
  job-by phase.Short advance.NoMemory h g = job-short g
  job-by phase.Begun advance.More h g = absurd h
  job-by phase.Begun (advance.Waits by) h g = absurd h
  job-by (phase.Prepared m r w) (advance.Waits by) h g = absurd h
  job-by (phase.Over o told answered) (advance.Waits by) h g = absurd h
  job-by phase.Short (advance.Waits by) h g = absurd h
  job-by phase.Begun advance.Done h g = absurd h
  job-by phase.Begun advance.NoMemory h g = absurd h
  job-by (phase.Prepared m r w) advance.Done h g = absurd h
  job-by (phase.Prepared m r w) advance.NoMemory h g = absurd h
  job-by (phase.Over o told answered) advance.More h g = absurd h
  job-by (phase.Over o told answered) advance.NoMemory h g = absurd h
  job-by phase.Short advance.More h g = absurd h
  job-by phase.Short advance.Done h g = absurd h

-- ---- the work after a call

pub onward : (x y : LaneState) → y ≡ record x { journal = y.journal; last = y.last; nodes = y.nodes; late = y.late } → IsUneventful (journal_of x) (journal_of y) → IsOnward x y
onward x y e q = record {
  lane = ap (λ (z : LaneState). z.lane) e;
  rules = ap (λ (z : LaneState). z.rules) e;
  newest = ap (λ (z : LaneState). z.newest) e;
  spare = ap (λ (z : LaneState). z.spare) e;
  parted = ap (λ (z : LaneState). vec_len z.parts) e;
  placed = ap (λ (z : LaneState). z.turn_room) e;
  resting = λ r. subst AreResting (sym e) r;
  quiet = q;
}

-- calls are left
pub lasts-by : (c : LaneState) (line : ℕ) (row : Low) (t : Standing) (left : ℕ) (p : Phase) (a : Advance) → messages_left t ≤ left + 1 → ComesTo c line row t p a → PhaseLasts left p
lasts-by c line row t left (phase.Prepared m r w) advance.More le h = let f = (h.1).fewer in let s = (h.1).some in (omega (arith, f, s, le), omega (arith, f, le))
lasts-by c line row t left (phase.Over o told answered) a le h = tt
lasts-by c line row t left phase.Short a le h = tt
lasts-by c line row t left phase.Begun advance.More le h = absurd h
lasts-by c line row t left phase.Begun (advance.Waits by) le h = absurd h
lasts-by c line row t left phase.Begun advance.Done le h = absurd h
lasts-by c line row t left phase.Begun advance.NoMemory le h = absurd h
lasts-by c line row t left (phase.Prepared m r w) (advance.Waits by) le h = absurd h
lasts-by c line row t left (phase.Prepared m r w) advance.Done le h = absurd h
lasts-by c line row t left (phase.Prepared m r w) advance.NoMemory le h = absurd h

-- ---- one call

module _ (x w : Work) (at : ℕ) (j : Job) (t : Standing) (row : Low) (written : Bool) (k : IsWork x) (found : slice_get x.jobs.items at ≡ Some j) (stage : j.phase ≡ phase.Prepared t row written) (kept : IsKept w.state)
    (after : w.state ≡ record x.state { journal = w.state.journal; last = w.state.last; nodes = w.state.nodes; late = w.state.late }) (quiet : IsUneventful (journal_of x.state) (journal_of w.state))
    (ends : OfOperation (λ lane rules J last d s line row written t. (o : Outcome) → next_at t ≡ Finishes o → IsLegalStep (setting_of lane rules) J (Closed line o)))
    (acked : OfOperation (λ lane rules J last d s line row written t. (stamp : Stamp) → next_at t ≡ Finishes (outcome.Acked stamp) → IsAckedAs (history J) d s line t stamp))
    (p : Phase) (a : Advance) (comes : ComesTo w.state j.line row t p a) (going : GoesIn w.state j.line t.plan) (runs : RunsIn x.state w.state j.line t) where
  abbrev y : LaneState
  y = w.state

  abbrev now : Job
  now = record j { left = j.left - 1; phase = p }

  was-job : IsJob x.state.lane x.state.rules (journal_of x.state) j
  was-job = (k.jobs_are).each at j found

  keeps : IsPrepared x.state.lane x.state.rules (journal_of x.state) j (was-job).state row written t
  keeps = subst (λ (q : Phase). PhaseKeeps x.state.lane x.state.rules (journal_of x.state) j (was-job).state q) stage (was-job).phase_is

  of-job : IsOf j t.plan
  of-job = of-prepared x.state.lane x.state.rules (journal_of x.state) j (was-job).state row written t keeps

  on : IsOnward x.state y
  on = onward x.state y after quiet

  -- the messages of the call, as its line's
  run : IsRunSince x.state.lane x.state.rules j.line j.operation (history (journal_of x.state)) (journal_of x.state) (journal_of y)
  run = subst (λ (o : Operation). IsRunSince x.state.lane x.state.rules j.line o (history (journal_of x.state)) (journal_of x.state) (journal_of y)) (of-job).operation (runs (history (journal_of x.state)) (λ n m s. s))

  -- the row in which it is prepared
  pub prepared-now : (m : Preparing) × (prepared j.line (history (journal_of y)) ≡ Some m) × (prepared j.line (history (journal_of x.state)) ≡ Some m)
  prepared-now =
      let was = ((((keeps).stands).knows).plan).prepared_as in
      (_, run-prepared x.state.lane x.state.rules j.line j.operation (history (journal_of x.state)) (journal_of x.state) (journal_of y) run j.line _ was, was)

  job : IsJob y.lane y.rules (journal_of y) now
  job = job-by y j (j.left - 1) row t of-job
      (λ q s acting under_way keeps. record {
        state = s;
        acting = acting;
        under_way = under_way;
        key_is = (was-job).key_is;
        key_in = subst (λ (l : Low). IsIn l (key_of j.operation.id)) (sym (on).lane) (was-job).key_in;
        own = (was-job).own;
        plain = (was-job).plain;
        row_is = subst (IsItsRow j.row) ((prepared-now).2 ∙ sym (prepared-now).1) (was-job).row_is;
        phase_is = keeps;
      })
      (λ s b z o entry knows finished. ends y.lane y.rules (journal_of y) y.newest y.last y.nodes.items y.parts.items kept.keeps (sender_of z) s j.line b entry z knows o finished)
      (λ s b z stamp entry knows finished. acked y.lane y.rules (journal_of y) y.newest y.last y.nodes.items y.parts.items kept.keeps (sender_of z) s j.line b entry z knows stamp finished)
      p a comes going

  lasting : PhaseLasts j.left (phase.Prepared t row written)
  lasting = subst (λ (q : Phase). PhaseLasts j.left q) stage ((k.jobs_are).lasts at j found)

  some : 1 ≤ j.left
  some = (lasting).0

  lasts : PhaseLasts (j.left - 1) p
  lasts = let le = (lasting).1 in let one = some in lasts-by y j.line row t (j.left - 1) p a (omega (arith, le, one)) comes

  legal-now : IsLegal (setting_of x.state.lane x.state.rules) (journal_of y)
  legal-now = subst (λ (r : Rules). IsLegal (setting_of x.state.lane r) (journal_of y)) (on).rules (subst (λ (l : Low). IsLegal (setting_of l y.rules) (journal_of y)) (on).lane (kept.keeps).legal)

  job-then : IsJob x.state.lane x.state.rules (journal_of y) now
  job-then = subst (λ (r : Rules). IsJob x.state.lane r (journal_of y) now) (on).rules (subst (λ (l : Low). IsJob l y.rules (journal_of y) now) (on).lane job)

  jobs : AreJobs x.state.lane x.state.rules (journal_of y) (slice_set x.jobs.items at now)
  jobs = jobs-set x.state.lane x.state.rules (journal_of x.state) (journal_of y) x.jobs.items k.jobs_are ((k.kept).keeps).legal legal-now at j found now refl refl job-then lasts
      (λ b m got off. run-others m.line m.operation.id x.state.lane x.state.rules j.line j.operation
      (off-line x.state.lane x.state.rules (journal_of x.state) (journal_of y) x.jobs.items k.jobs_are ((k.kept).keeps).legal legal-now at j found b m got off)
      (off-document x.state.lane x.state.rules (journal_of x.state) (journal_of y) x.jobs.items k.jobs_are ((k.kept).keeps).legal legal-now at j found b m got off) (journal_of x.state) (journal_of y) run)
      (run-begins x.state.lane x.state.rules j.line j.operation (history (journal_of x.state)) (journal_of x.state) (journal_of y) run)
      (run-closes x.state.lane x.state.rules j.line j.operation (history (journal_of x.state)) (journal_of x.state) (journal_of y) run)

  module _ (drawn : w.drawn ≡ x.drawn) (room : w.has_room ≡ x.has_room) (items : w.jobs.items ≡ slice_set x.jobs.items at now) where
    pub keeps-stepped : HasRoom 0 y → FindsEntries (place_of w.places) y.journal.events.items → IsWork w
    keeps-stepped free finds = work-set x w k on drawn room kept free
        (subst (λ (js : List Job). AreJobs y.lane y.rules (journal_of y) js) (sym items)
        (subst (λ (l : Low). AreJobs l y.rules (journal_of y) (slice_set x.jobs.items at now)) (sym (on).lane) (subst (λ (r : Rules). AreJobs x.state.lane r (journal_of y) (slice_set x.jobs.items at now)) (sym (on).rules) jobs)))
        (ap length items ∙ set-length x.jobs.items at now) finds

  module _ (items : List Job) (put : items ≡ slice_set x.jobs.items at now) (given fates planned : List Fate) (takes : Bool) (one : a ≡ advance.More → GivesOne given fates) (few : GivesFew given fates) where
    abbrev before : LaneValue
    before = value_of x given planned takes

    abbrev later : LaneValue
    later = value_as x y fates planned takes items

    value : later ≡ with_run before (journal_of y) fates at (under_way_at now)
    value = value-as x y given fates planned takes at now items (on).lane (on).rules put

    -- nothing stands against what is prepared
    free : IsFree (under_way_at j) before
    free by h = let wrong : progress.Runs ≡ progress.Begun = sym (ap progress_of stage) ∙ h.begun in cc

    went : WentOn at (under_way_at j) (progress_of p) before later
    went = record { free = free; left = j.left - 1; fewer = (let calls = some in omega (arith, calls)); after = value; gives = gives_few given fates few; few = λ runs. few; run = run }

    pub advances-stepped : AdvancesAt at before later a
    advances-stepped = (under_way_at j, get-map under_way_at x.jobs.items at j found, by p a refl refl comes)
      where
        end-of : (o told : Outcome) (answered : ℕ) → WantsEnd y j.line row t o told answered → IsEndSince y.lane y.rules j.line j.operation (history (journal_of x.state)) (journal_of y) o
        end-of o told answered h = over-wanted y j (j.left - 1) row t of-job
            (λ q s acting under_way keeps. record {
              state = s;
              acting = acting;
              under_way = under_way;
              key_is = (was-job).key_is;
              key_in = subst (λ (l : Low). IsIn l (key_of j.operation.id)) (sym (on).lane) (was-job).key_in;
              own = (was-job).own;
              plain = (was-job).plain;
              row_is = subst (IsItsRow j.row) ((prepared-now).2 ∙ sym (prepared-now).1) (was-job).row_is;
              phase_is = keeps;
            })
            (λ s b z o entry knows finished. ends y.lane y.rules (journal_of y) y.newest y.last y.nodes.items y.parts.items kept.keeps (sender_of z) s j.line b entry z knows o finished)
            (λ s b z stamp entry knows finished. acked y.lane y.rules (journal_of y) y.newest y.last y.nodes.items y.parts.items kept.keeps (sender_of z) s j.line b entry z knows stamp finished)
            (history (journal_of x.state)) o told answered h

        more-of : (v : Bool) (m : Standing) → WantsMore y j.line row v t m → (e : LaneEvent) × WantsSince y.lane y.rules j.line j.operation (history (journal_of x.state)) (journal_of y) (Adds e)
        more-of v m h = more-wanted y j row t of-job (history (journal_of x.state)) v m h

        by : (q : Phase) (b : Advance) → p ≡ q → a ≡ b → ComesTo w.state j.line row t q b → Advances at (under_way_at j) before later b
        by (phase.Prepared m r v) advance.More is says h = (
          subst (λ (z : Phase). WentOn at (under_way_at j) (progress_of z) before later) is went,
          subst (λ (z : Option Preparing). IsSome z) (sym (prepared-now).1) refl,
          λ begun. absurd (let other : progress.Runs ≡ progress.Begun = sym (ap progress_of stage) ∙ begun in cc),
          λ runs. (
            one says,
            (
              (more-of v m h.1).0,
              subst (λ (l : Low). WantsSince l x.state.rules j.line j.operation (history (journal_of x.state)) (journal_of y) (Adds (more-of v m h.1).0)) (on).lane
                  (subst (λ (s : Rules). WantsSince y.lane s j.line j.operation (history (journal_of x.state)) (journal_of y) (Adds (more-of v m h.1).0)) (on).rules (more-of v m h.1).1),
            ),
          ),
        )
        by (phase.Over o told answered) advance.Done is says h = (
          o,
          subst (λ (z : Phase). WentOn at (under_way_at j) (progress_of z) before later) is went,
          subst (λ (l : Low). IsEndSince l x.state.rules j.line j.operation (history (journal_of x.state)) (journal_of y) o) (on).lane
              (subst (λ (r : Rules). IsEndSince y.lane r j.line j.operation (history (journal_of x.state)) (journal_of y) o) (on).rules (end-of o told answered h)),
        )
        by phase.Short advance.NoMemory is says h = record {
          left = j.left - 1;
          after = value ∙ ap (λ (z : Phase). with_run before (journal_of y) fates at (under_way_of j.line j.operation j.distributor (progress_of z) (j.left - 1))) is;
          gives = gives_few given fates few;
          few = λ runs. few;
          run = (journal_of y, run, inl refl);
        }
        by phase.Begun advance.More is says h = absurd h
        by phase.Begun (advance.Waits l) is says h = absurd h
        by phase.Begun advance.Done is says h = absurd h
        by phase.Begun advance.NoMemory is says h = absurd h
        by (phase.Prepared m r v) (advance.Waits l) is says h = absurd h
        by (phase.Prepared m r v) advance.Done is says h = absurd h
        by (phase.Prepared m r v) advance.NoMemory is says h = absurd h
        by (phase.Over o told answered) advance.More is says h = absurd h
        by (phase.Over o told answered) (advance.Waits l) is says h = absurd h
        by (phase.Over o told answered) advance.NoMemory is says h = absurd h
        by phase.Short advance.More is says h = absurd h
        by phase.Short (advance.Waits l) is says h = absurd h
        by phase.Short advance.Done is says h = absurd h

-- ---- where it stands

-- what is at its messages is prepared
pub prepared-of : (p : Phase) → IsAtMessages p → (t : Standing) × (row : Low) × (written : Bool) × (p ≡ phase.Prepared t row written)
prepared-of phase.Begun h = absurd h
prepared-of (phase.Prepared m r w) h = (m, r, w, refl)
prepared-of (phase.Over o t n) h = absurd h
prepared-of phase.Short h = absurd h

pub stands-in : (w : Work) (at : ℕ) (j : Job) (row : Low) (written : Bool) (t : Standing) → IsWork w → slice_get w.jobs.items at ≡ Some j → j.phase ≡ phase.Prepared t row written → StandsIn w.state j.line row written t
stands-in w at j row written t k found stage = record {
  state = job.state;
  acting = subst (λ (d : ℕ). IsActing w.state.lane (journal_of w.state) d job.state) (sym of.sender) job.acting;
  entry = kept.entry;
  stands = record {
    knows = subst (λ (d : ℕ). KnowsOperation w.state.lane w.state.rules (journal_of w.state) d job.state j.line row kept.entry t) (sym of.sender) (kept.stands).knows;
    operation_is = refl;
  };
  written_is = kept.written_is;
}
  where
    job : IsJob w.state.lane w.state.rules (journal_of w.state) j
    job = (k.jobs_are).each at j found

    kept : IsPrepared w.state.lane w.state.rules (journal_of w.state) j job.state row written t
    kept = subst (λ (q : Phase). PhaseKeeps w.state.lane w.state.rules (journal_of w.state) j job.state q) stage job.phase_is

    of : IsOf j t.plan
    of = of-prepared w.state.lane w.state.rules (journal_of w.state) j job.state row written t kept

-- as a call of its job wants it
module _ (w : Work) (at : ℕ) (j : Job) (k : IsWork w) (found : slice_get w.jobs.items at ≡ Some j) (messages : IsAtMessages j.phase) where
  by_stage : (P : Low → Bool → Standing → Type 0) → ((row : Low) (written : Bool) (t : Standing) → j.phase ≡ phase.Prepared t row written → P row written t) → OfPrepared P j.phase
  by_stage P f = let p = prepared-of j.phase messages in subst (OfPrepared P) (sym p.3) (f p.1 p.2 p.0 p.3)

  pub step-stands : OfPrepared (StandsIn w.state j.line) j.phase
  step-stands = by_stage (StandsIn w.state j.line) (λ row written t stage. stands-in w at j row written t k found stage)

  pub step-key : OfPrepared (λ row written t. j.key ≡ keys.key_of t.plan.operation.id) j.phase
  step-key = by_stage (λ row written t. j.key ≡ keys.key_of t.plan.operation.id) (λ row written t stage. key-prepared w at j row written t k found stage)

  pub step-left : 1 ≤ j.left
  step-left = let p = prepared-of j.phase messages in (subst (λ (q : Phase). PhaseLasts j.left q) p.3 ((k.jobs_are).lasts at j found)).0

use Rattle.std.proofs.Common.{rules, ◌≡◌, ◌<◌, ℕ, ◌∷◌, ◌∙◌, List, Some, IsSome, false, slice_get, slice_set, refl, sym, ap, subst}
use Rattle.cluster_states.specs.declared.cluster_state.ClusterState.{ClusterState}
use Rattle.messages.specs.declared.message.Origin.{Origin}
use Rattle.op_machine.specs.Plans.{plan_of}
use Rattle.op_machine.specs.Standings.{IsBegun}
use Rattle.bucket_db.specs.declared.row.Row.{Row}
use Rattle.lane_journals.specs.Meanings.{history}
use Rattle.lane_journals.specs.declared.event.LaneEvent.TheVariants.{Prepared}
use Rattle.lane_journals.specs.ActiveCopies.{ActiveIsComplete}
use Rattle.lane_core.specs.declared.work.Job.{Job}
use Rattle.lane_core.specs.declared.work.Phase.TheVariants as phase
use Rattle.lane_states.specs.declared.lane_state.LaneState.{LaneState}
use Rattle.lane_states.specs.LaneStates.{journal_of}
use Rattle.lane_core.specs.Preparations.{IsReadyFor}
use Rattle.lane_lines.proofs.Carrying.{carried-more}
use Rattle.proof_basics.proofs.Options.{some_same as some-same}
use Rattle.lane_core.proofs.Fitting.{key-there, job-of, fit-row, fit-plan, fit-wanted, fit-work, preparing, there-now}
use Rattle.lane_core.proofs.Places.{of-place, get-map, get-index, get-within}
use Rattle.lane_core.specs.Works.{value_of, under_way_at}
use Rattle.lane_journals.specs.Readers.{prepared}
use Rattle.lane_journals.specs.declared.event.LaneEvent.{LaneEvent}
use Rattle.lane_calls.specs.LaneValues.{with_run}
use Rattle.lane_core.proofs.Working.{value-set}
use Rattle.lane_core.proofs.work.Work.prepare_in_row.Goals as goal

pub index-job-requires : goal.index-job-requires
index-job-requires c = subst (λ (n : ℕ). c.args.at < n) (sym c.args.self.now.jobs.ok.0) (get-within c.args.self.now.jobs.items c.args.at c.requires.ready.0 c.requires.ready.1)

pub row_with-row-requires-clause-key : goal.row_with-row-requires-clause-key
row_with-row-requires-clause-key c =
    let x = c.args.self.now in
    let j : Job = c.index-job.result.now in
    let at = c.args.at in
    let found : slice_get x.jobs.items at ≡ Some j = get-index x.jobs.items at j (get-within x.jobs.items at c.requires.ready.0 c.requires.ready.1) c.index-job.ensures in
    let r : IsReadyFor x.state j = of-place (IsReadyFor x.state) x.jobs.items at j found c.requires.ready in
    key-there x at j c.requires.keeps found r

pub machine_of-requires-clause-key : goal.machine_of-requires-clause-key
machine_of-requires-clause-key c =
    let x = c.args.self.now in
    let j : Job = c.index-job.result.now in
    let at = c.args.at in
    let found : slice_get x.jobs.items at ≡ Some j = get-index x.jobs.items at j (get-within x.jobs.items at c.requires.ready.0 c.requires.ready.1) c.index-job.ensures in
    let r : IsReadyFor x.state j = of-place (IsReadyFor x.state) x.jobs.items at j found c.requires.ready in
    (job-of x at j c.requires.keeps found r).key_is

pub machine_of-requires-clause-plan : goal.machine_of-requires-clause-plan
machine_of-requires-clause-plan c =
    let x = c.args.self.now in
    let j : Job = c.index-job.result.now in
    let at = c.args.at in
    let found : slice_get x.jobs.items at ≡ Some j = get-index x.jobs.items at j (get-within x.jobs.items at c.requires.ready.0 c.requires.ready.1) c.index-job.ensures in
    let r : IsReadyFor x.state j = of-place (IsReadyFor x.state) x.jobs.items at j found c.requires.ready in
    let keep = c.requires.keeps.kept.keeps in
    let all : ActiveIsComplete (history (journal_of x.state)) = c.one_active_copy.ensures.active _ c.requires.keeps.set_up.acked _ _ (c.kept_journals_mean_legal_ones.ensures _ _ keep.legal) in
    let fit = fit-row x at j c.requires.keeps found r c.row_with-row.result c.row_with-row.ensures (c.owners_act.ensures.rows _ _ _ _ _ _ _ keep _ _ r.acting) c.owners_act.ensures.inside in
    fit-plan x at j c.requires.keeps found r c.row_with-row.result fit.0 fit.1 _ all

pub note-requires-clause-legal : goal.note-requires-clause-legal
note-requires-clause-legal c =
    let x = c.args.self.now in
    let j : Job = c.index-job.result.now in
    let at = c.args.at in
    let found : slice_get x.jobs.items at ≡ Some j = get-index x.jobs.items at j (get-within x.jobs.items at c.requires.ready.0 c.requires.ready.1) c.index-job.ensures in
    let r : IsReadyFor x.state j = of-place (IsReadyFor x.state) x.jobs.items at j found c.requires.ready in
    let keep = c.requires.keeps.kept.keeps in
    let row : Row = c.row_with-row.result in
    let fit = fit-row x at j c.requires.keeps found r row c.row_with-row.ensures (c.owners_act.ensures.rows _ _ _ _ _ _ _ keep _ _ r.acting) c.owners_act.ensures.inside in
    rw c.reserve.ensures.items
    (c.operations_prepare.ensures.legal _ _ _ _ _ _ _ keep _ _ _ _ _ (preparing x at j c.requires.keeps found r) row fit.0 fit.1 (r.enough row fit.0 fit.1) (c.requires.keeps.no_round r.state.version row.bucket))

pub returns-clause-keeps : goal.returns-clause-keeps
returns-clause-keeps c =
    let x = c.args.self.now in
    let j : Job = c.index-job.result.now in
    let at = c.args.at in
    let found : slice_get x.jobs.items at ≡ Some j = get-index x.jobs.items at j (get-within x.jobs.items at c.requires.ready.0 c.requires.ready.1) c.index-job.ensures in
    let r : IsReadyFor x.state j = of-place (IsReadyFor x.state) x.jobs.items at j found c.requires.ready in
    let keep = c.requires.keeps.kept.keeps in
    let row : Row = c.row_with-row.result in
    let fit = fit-row x at j c.requires.keeps found r row c.row_with-row.ensures (c.owners_act.ensures.rows _ _ _ _ _ _ _ keep _ _ r.acting) c.owners_act.ensures.inside in
    let all : ActiveIsComplete (history (journal_of x.state)) = c.one_active_copy.ensures.active _ c.requires.keeps.set_up.acked _ _ (c.kept_journals_mean_legal_ones.ensures _ _ keep.legal) in
    let same : c.in-Some.state ≡ r.state = some-same _ _ (sym c.in-Some.is ∙ c.state_at.ensures ∙ c.owners_act.ensures.heard _ _ _ _ _ _ _ keep _ _ r.acting) in
    let version : c.version.result ≡ r.state.version = c.version.ensures.value ∙ ap (λ (s : ClusterState). s.version) same in
    let origin : Origin = record { version = r.state.version; lane = x.state.lane.low; sender = j.distributor } in
    let begun : IsBegun (plan_of origin j.operation j.stamp row.complete row.active x.state.rules.acks) c.in_ok-machine.machine = rw (version, c.low.ensures.value) at c.in_ok-machine.ensures in
    let operation = c.operations_prepare.ensures.known _ _ _ _ _ _ _ keep _ _ _ _ _ (preparing x at j c.requires.keeps found r) row c.in_ok-machine.machine r.acting fit.0 fit.1 (job-of x at j c.requires.keeps found r).plain
    (fit-plan x at j c.requires.keeps found r row fit.0 fit.1 origin all) begun in
    fit-work x at j c.requires.keeps found r row fit.0 fit.1 c.operations_shorten.ensures.few c.in_ok-machine.machine origin begun operation
    (record { state = c.note.new.self; schema = x.schema; drawn = x.drawn; places = x.places; has_room = x.has_room; jobs = c.set_prepared.new.jobs })
    (of-place (λ (z : Job). c.set_prepared.new.jobs.items ≡ slice_set x.jobs.items at (record z { row = Some row.bucket; phase = phase.Prepared c.in_ok-machine.machine row.bucket false })) x.jobs.items at j found c.set_prepared.ensures)
    refl refl refl c.note.ensures.after c.note.ensures.keeps (c.note.ensures.grows ∙ rw c.reserve.ensures.items refl) (search rules)

pub returns-clause-carried : goal.returns-clause-carried
returns-clause-carried c = carried-more c.args.self.now.state c.note.new.self (Prepared c.index-job.result.now.line c.row_with-row.result.bucket c.row_with-row.result.complete) tt
    (c.note.ensures.grows ∙ rw c.reserve.ensures.items refl) (ap (λ (z : LaneState). z.last) c.note.ensures.after) (ap (λ (z : LaneState). z.late.late) c.note.ensures.after)

pub returns-clause-ok : goal.returns-clause-ok
returns-clause-ok c = λ given planned takes.
    let x = c.args.self.now in
    let j : Job = c.index-job.result.now in
    let at = c.args.at in
    let found : slice_get x.jobs.items at ≡ Some j = get-index x.jobs.items at j (get-within x.jobs.items at c.requires.ready.0 c.requires.ready.1) c.index-job.ensures in
    let r : IsReadyFor x.state j = of-place (IsReadyFor x.state) x.jobs.items at j found c.requires.ready in
    let keep = c.requires.keeps.kept.keeps in
    let row : Row = c.row_with-row.result in
    let fit = fit-row x at j c.requires.keeps found r row c.row_with-row.ensures (c.owners_act.ensures.rows _ _ _ _ _ _ _ keep _ _ r.acting) c.owners_act.ensures.inside in
    let after = c.note.ensures.after in
    let now : Job = record j { row = Some row.bucket; phase = phase.Prepared c.in_ok-machine.machine row.bucket false } in
    let put : c.set_prepared.new.jobs.items ≡ slice_set x.jobs.items at now
    = of-place (λ (z : Job). c.set_prepared.new.jobs.items ≡ slice_set x.jobs.items at (record z { row = Some row.bucket; phase = phase.Prepared c.in_ok-machine.machine row.bucket false })) x.jobs.items at j found c.set_prepared.ensures in
    let grows : journal_of c.note.new.self ≡ Prepared j.line row.bucket row.complete ∷ journal_of x.state = c.note.ensures.grows ∙ rw c.reserve.ensures.items refl in (
      under_way_at j,
      get-map under_way_at x.jobs.items at j found,
      record {
        row = row;
        wanted = fit-wanted x at j c.requires.keeps found r row fit.0 fit.1;
        there = subst (λ (K : List LaneEvent). IsSome (prepared j.line (history K))) (sym grows) (there-now x at j c.requires.keeps found r row fit.0 fit.1);
        after = value-set x (record { state = c.note.new.self; schema = x.schema; drawn = x.drawn; places = x.places; has_room = x.has_room; jobs = c.set_prepared.new.jobs }) given given planned takes at now
            (ap (λ (z : LaneState). z.lane) after) (ap (λ (z : LaneState). z.rules) after) refl refl put
            ∙ ap (λ (K : List LaneEvent). with_run (value_of x given planned takes) K given at (under_way_at now)) grows;
      },
    )

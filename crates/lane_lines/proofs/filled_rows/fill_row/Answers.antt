use Rattle.std.proofs.Common.{◌≡◌, ◌<◌, ◌∙◌, ℕ, None, ap, refl, sym, subst}
use Rattle.bucket_ids.specs.Buckets.{Low, IsIn}
use Rattle.operation_keeping.specs.RuleBounds.{AreRules}
use Rattle.lane_states.specs.declared.lane_state.LaneState.{LaneState}
use Rattle.round_keeping.specs.declared.round_run.RoundRun.{RoundRun}
use Rattle.lane_states.specs.LaneStates.{journal_of, part_of, IsResting}
use Rattle.round_keeping.specs.RoundRuns.{IsRunning, IsRunBy, MayBegin}
use Rattle.lane_journals.specs.Readers.{Journal, sent}
use Rattle.lane_lines.specs.Readying.{HasSent, OfSearches, IsCutOffWith, HasRowFor}
use Rattle.proof_basics.proofs.Results.{on-err}
use Rattle.lane_states.proofs.Giving.{gives_same}
use Rattle.lane_lines.proofs.Entries.{adds-none, adds-on}
use Rattle.lane_lines.proofs.EntryFree.{adds-begun, adds-whole, adds-cut}
use Rattle.lane_lines.proofs.RunningSteps.{unsent-since, quiet-same}
use Rattle.lane_lines.proofs.RoundLines.{may-begin, ended-rests}
use Rattle.lane_lines.proofs.RowRounds.{HasBegun, nothing-done, cut-nothing, goes-on, cut-off, whole-quiet, cut-quiet, others-on, enough-rests}
use Rattle.lane_lines.proofs.FilledRows.{row-fit, somebody-lacks, finds-after}
use Rattle.lane_lines.proofs.filled_rows.fill_row.Goals as goal

pub begin_round-requires-clause-may : goal.begin_round-requires-clause-may
begin_round-requires-clause-may g c =
    let x = c.args.lane.now in
    let d = c.args.distributor in
    let key = c.args.key in
    let f = c.requires.for_line in
    let may : MayBegin x.lane d (part_of x d) key = may-begin x.lane f.line f.operation f.stamp (journal_of x) d f.state f.waits (part_of x d) key f.key_is
    (c.owners_act.ensures.heard _ _ _ _ _ _ _ c.requires.keeps.keeps d f.state f.waits.acting) c.requires.opened c.requires.resting in
    may

pub begin_round-requires-clause-free : goal.begin_round-requires-clause-free
begin_round-requires-clause-free g c = rw c.in_ok-reserve.ensures.items c.requires.free

pub run_round-requires-clause-runs : goal.run_round-requires-clause-runs
run_round-requires-clause-runs g c =
    let x = c.args.lane.now in
    let d = c.args.distributor in
    let key = c.args.key in
    let m = c.begin_round.new.lane in
    let run = c.in-Some.begun in
    subst (λ (l : Low). IsRunning l (journal_of m) run) (sym (ap (λ (z : LaneState). z.lane) c.begin_round.ensures.after)) c.in-Some.ensures.begins.runs

pub run_round-requires-clause-told : goal.run_round-requires-clause-told
run_round-requires-clause-told g c =
    let x = c.args.lane.now in
    let d = c.args.distributor in
    let key = c.args.key in
    let m = c.begin_round.new.lane in
    let run = c.in-Some.begun in
    ap (λ (z : RoundRun). z.round.awaited) c.in-Some.ensures.begins.new.is

pub run_round-requires-clause-run_by : goal.run_round-requires-clause-run_by
run_round-requires-clause-run_by g c =
    let x = c.args.lane.now in
    let d = c.args.distributor in
    let key = c.args.key in
    let m = c.begin_round.new.lane in
    let run = c.in-Some.begun in
    subst (λ (e : ℕ). IsRunBy (part_of m e) run) (sym c.in-Some.ensures.begins.distributor_is) c.in-Some.ensures.run_by

pub run_round-requires-clause-inside : goal.run_round-requires-clause-inside
run_round-requires-clause-inside g c =
    let x = c.args.lane.now in
    let d = c.args.distributor in
    let key = c.args.key in
    let f = c.requires.for_line in
    let may : MayBegin x.lane d (part_of x d) key = may-begin x.lane f.line f.operation f.stamp (journal_of x) d f.state f.waits (part_of x d) key f.key_is
    (c.owners_act.ensures.heard _ _ _ _ _ _ _ c.requires.keeps.keeps d f.state f.waits.acting) c.requires.opened c.requires.resting in
    let m = c.begin_round.new.lane in
    let run = c.in-Some.begun in
    subst (λ (l : Low). IsIn l run.key) (sym (ap (λ (z : LaneState). z.lane) c.begin_round.ensures.after)) (subst (λ (k : ℕ). IsIn x.lane k) (sym c.in-Some.ensures.begins.key_is) may.inside)

pub run_round-requires-clause-carried : goal.run_round-requires-clause-carried
run_round-requires-clause-carried g c =
    c.begin_round.ensures.carried _ (rw c.in_ok-reserve.ensures.items c.requires.carried)

pub returns-in_err-reserve-clause-cut : goal.returns-in_err-reserve-clause-cut
returns-in_err-reserve-clause-cut g c =
    let x = c.args.lane.now in
    let d = c.args.distributor in
    let key = c.args.key in
    let n = record x { journal = record x.journal { events = c.reserve.new.self } } in
    let cut : OfSearches x d key (λ from line o s stamp. IsCutOffWith from x n line o d s stamp) =
    λ line o s stamp w same from has none. cut-nothing from x n line o d s stamp (nothing-done from x n line o d s stamp (rw c.in_err-reserve.ensures.items refl) w) in
    on-err c.from_residual.result _ cut

pub returns-in_err-reserve-clause-gives : goal.returns-in_err-reserve-clause-gives
returns-in_err-reserve-clause-gives g c = gives_same _ _ refl

pub returns-in_default-clause-gives : goal.returns-in_default-clause-gives
returns-in_default-clause-gives g c = gives_same _ _ refl

pub returns-in_err-end-clause-gives : goal.returns-in_err-end-clause-gives
returns-in_err-end-clause-gives g c = let on = c.in_err-end.ensures.cut.on in (on.fates, on.given_are)

pub returns-clause-gives : goal.returns-clause-gives
returns-clause-gives g c = let on = c.in_ok-end.ensures.whole.on in (on.fates, on.given_are)

pub returns-in_err-reserve-clause-quiet : goal.returns-in_err-reserve-clause-quiet
returns-in_err-reserve-clause-quiet g c =
    quiet-same _ _ (rw c.in_err-reserve.ensures.items refl)

pub returns-in_default-clause-carried : goal.returns-in_default-clause-carried
returns-in_default-clause-carried g c =
    c.begin_round.ensures.carried _ (rw c.in_ok-reserve.ensures.items c.requires.carried)

pub returns-in_default-clause-goes_on : goal.returns-in_default-clause-goes_on
returns-in_default-clause-goes_on g c =
    let x = c.args.lane.now in
    let d = c.args.distributor in
    let key = c.args.key in
    let m = c.begin_round.new.lane in
    let same_journal : journal_of m ≡ journal_of x = c.in_default.ensures.nothing ∙ rw c.in_ok-reserve.ensures.items refl in
    λ line o s stamp w same from has none. nothing-done from x m line o d s stamp same_journal w

pub returns-in_default-clause-finds : goal.returns-in_default-clause-finds
returns-in_default-clause-finds g c =
    let x = c.args.lane.now in
    let d = c.args.distributor in
    let key = c.args.key in
    let m = c.begin_round.new.lane in
    let same_journal : journal_of m ≡ journal_of x = c.in_default.ensures.nothing ∙ rw c.in_ok-reserve.ensures.items refl in
    λ line o s stamp w same from has none.
    let e = c.in_default.ensures.enough in
    let keep = c.requires.keeps.keeps in
    subst (λ (k : ℕ). HasRowFor m s.version k) same
    (row-fit x m d s.version key e.missing (ap (λ (z : LaneState). z.rules) c.begin_round.ensures.after) same_journal (keep.parts_are d) e.enough
    (c.owners_act.ensures.rows _ _ _ _ _ _ _ keep d s w.acting e.enough.rows key e.enough.at e.enough.row e.enough.opened e.enough.is_row) (c.owners_act.ensures.inside e.enough.rows key e.enough.at e.enough.row e.enough.is_row))

pub returns-in_default-clause-quiet : goal.returns-in_default-clause-quiet
returns-in_default-clause-quiet g c =
    let x = c.args.lane.now in
    let d = c.args.distributor in
    let key = c.args.key in
    let m = c.begin_round.new.lane in
    let same_journal : journal_of m ≡ journal_of x = c.in_default.ensures.nothing ∙ rw c.in_ok-reserve.ensures.items refl in
    quiet-same (journal_of x) (journal_of m) same_journal

pub returns-in_default-clause-resting : goal.returns-in_default-clause-resting
returns-in_default-clause-resting g c =
    let x = c.args.lane.now in
    let d = c.args.distributor in
    let key = c.args.key in
    enough-rests (part_of x d) (part_of c.begin_round.new.lane d) key c.requires.resting c.in_default.ensures.enough

pub returns-in_err-end-clause-quiet : goal.returns-in_err-end-clause-quiet
returns-in_err-end-clause-quiet g c =
    let x = c.args.lane.now in
    let d = c.args.distributor in
    let key = c.args.key in
    let f = c.requires.for_line in
    let m = c.begin_round.new.lane in
    let run = c.in-Some.begun in
    let n = c.run_round.new.lane in
    let h : HasBegun x m n d key run = record {
      begins = rw c.in_ok-reserve.ensures.items at c.in-Some.ensures.begins;
      starts = c.rounds_are_wanted.ensures.begun x m d key run c.requires.keeps c.requires.none_runs (rw c.in_ok-reserve.ensures.items at c.in-Some.ensures.begins) c.in-Some.ensures.step;
      lane_then = ap (λ (z : LaneState). z.lane) c.begin_round.ensures.after;
      rules_then = ap (λ (z : LaneState). z.rules) c.begin_round.ensures.after;
    } in
    cut-quiet x m n d key run h f.line f.operation f.state f.stamp f.waits _ _ _ _ _ _ c.in_err-end.ensures.cut c.requires.none_runs c.run_round.ensures.none_runs

pub returns-in_err-end-clause-resting : goal.returns-in_err-end-clause-resting
returns-in_err-end-clause-resting g c =
    let x = c.args.lane.now in
    let d = c.args.distributor in
    let key = c.args.key in
    let m = c.begin_round.new.lane in
    let run = c.in-Some.begun in
    let n = c.run_round.new.lane in
    let job = c.run_round.ensures.job in
    subst (λ (e : ℕ). IsResting (part_of n e)) c.in-Some.ensures.begins.distributor_is (ended-rests (part_of m run.distributor) (part_of n run.distributor) c.run_round.new.run job.0 job.1)

pub returns-in_err-end-clause-others : goal.returns-in_err-end-clause-others
returns-in_err-end-clause-others g c =
    let x = c.args.lane.now in
    let d = c.args.distributor in
    let key = c.args.key in
    let m = c.begin_round.new.lane in
    let run = c.in-Some.begun in
    let n = c.run_round.new.lane in
    others-on x m n d run.distributor (ap (λ (z : LaneState). z.lane) c.begin_round.ensures.after) (ap (λ (z : LaneState). z.rules) c.begin_round.ensures.after) c.in-Some.ensures.begins.distributor_is c.begin_round.ensures.others c.run_round.ensures.others

pub returns-in_err-end-clause-parts : goal.returns-in_err-end-clause-parts
returns-in_err-end-clause-parts g c =
    c.run_round.ensures.parts ∙ c.begin_round.ensures.parts

pub returns-in_err-end-clause-cut : goal.returns-in_err-end-clause-cut
returns-in_err-end-clause-cut g c =
    let x = c.args.lane.now in
    let d = c.args.distributor in
    let key = c.args.key in
    let m = c.begin_round.new.lane in
    let run = c.in-Some.begun in
    let n = c.run_round.new.lane in
    let h : HasBegun x m n d key run = record {
      begins = rw c.in_ok-reserve.ensures.items at c.in-Some.ensures.begins;
      starts = c.rounds_are_wanted.ensures.begun x m d key run c.requires.keeps c.requires.none_runs (rw c.in_ok-reserve.ensures.items at c.in-Some.ensures.begins) c.in-Some.ensures.step;
      lane_then = ap (λ (z : LaneState). z.lane) c.begin_round.ensures.after;
      rules_then = ap (λ (z : LaneState). z.rules) c.begin_round.ensures.after;
    } in
    let runs : IsRunning m.lane (journal_of m) run = subst (λ (l : Low). IsRunning l (journal_of m) run) (sym (ap (λ (z : LaneState). z.lane) c.begin_round.ensures.after)) c.in-Some.ensures.begins.runs in
    let by : IsRunBy (part_of m run.distributor) run = subst (λ (e : ℕ). IsRunBy (part_of m e) run) (sym c.in-Some.ensures.begins.distributor_is) c.in-Some.ensures.run_by in
    let above : (from : Journal) → HasSent from (journal_of x) → (n : ℕ) → m.last < n → sent n from ≡ None =
    λ from has i more. unsent-since from (journal_of x) x.last i has c.requires.keeps.keeps.numbered (subst (λ (k : ℕ). k < i) (ap (λ (z : LaneState). z.last) c.begin_round.ensures.after) more) in
    let cut : OfSearches x d key (λ from line o s stamp. IsCutOffWith from x n line o d s stamp) =
    λ line o s stamp w same from has none. cut-off x m n d key run h line o s stamp w _ _ _ _ _ _ c.in_err-end.ensures.cut from same none (c.rounds_are_wanted.ensures.cut m n run _ _ runs by c.in_err-end.ensures.cut from (above from has)) in
    on-err c.from_residual-in_err-end.result _ cut

pub returns-clause-quiet : goal.returns-clause-quiet
returns-clause-quiet g c =
    let x = c.args.lane.now in
    let d = c.args.distributor in
    let key = c.args.key in
    let f = c.requires.for_line in
    let m = c.begin_round.new.lane in
    let run = c.in-Some.begun in
    let n = c.run_round.new.lane in
    let h : HasBegun x m n d key run = record {
      begins = rw c.in_ok-reserve.ensures.items at c.in-Some.ensures.begins;
      starts = c.rounds_are_wanted.ensures.begun x m d key run c.requires.keeps c.requires.none_runs (rw c.in_ok-reserve.ensures.items at c.in-Some.ensures.begins) c.in-Some.ensures.step;
      lane_then = ap (λ (z : LaneState). z.lane) c.begin_round.ensures.after;
      rules_then = ap (λ (z : LaneState). z.rules) c.begin_round.ensures.after;
    } in
    whole-quiet x m n d key run h f.line f.operation f.state f.stamp f.waits c.in_ok-end.end _ _ _ _ _ _ c.in_ok-end.ensures.whole c.requires.none_runs c.run_round.ensures.none_runs

pub returns-clause-resting : goal.returns-clause-resting
returns-clause-resting g c =
    let x = c.args.lane.now in
    let d = c.args.distributor in
    let key = c.args.key in
    let m = c.begin_round.new.lane in
    let run = c.in-Some.begun in
    let n = c.run_round.new.lane in
    let job = c.run_round.ensures.job in
    subst (λ (e : ℕ). IsResting (part_of n e)) c.in-Some.ensures.begins.distributor_is (ended-rests (part_of m run.distributor) (part_of n run.distributor) c.run_round.new.run job.0 job.1)

pub returns-clause-others : goal.returns-clause-others
returns-clause-others g c =
    let x = c.args.lane.now in
    let d = c.args.distributor in
    let key = c.args.key in
    let m = c.begin_round.new.lane in
    let run = c.in-Some.begun in
    let n = c.run_round.new.lane in
    others-on x m n d run.distributor (ap (λ (z : LaneState). z.lane) c.begin_round.ensures.after) (ap (λ (z : LaneState). z.rules) c.begin_round.ensures.after) c.in-Some.ensures.begins.distributor_is c.begin_round.ensures.others c.run_round.ensures.others

pub returns-clause-parts : goal.returns-clause-parts
returns-clause-parts g c =
    c.run_round.ensures.parts ∙ c.begin_round.ensures.parts

pub returns-clause-goes_on : goal.returns-clause-goes_on
returns-clause-goes_on g c =
    let x = c.args.lane.now in
    let d = c.args.distributor in
    let key = c.args.key in
    let m = c.begin_round.new.lane in
    let run = c.in-Some.begun in
    let n = c.run_round.new.lane in
    let h : HasBegun x m n d key run = record {
      begins = rw c.in_ok-reserve.ensures.items at c.in-Some.ensures.begins;
      starts = c.rounds_are_wanted.ensures.begun x m d key run c.requires.keeps c.requires.none_runs (rw c.in_ok-reserve.ensures.items at c.in-Some.ensures.begins) c.in-Some.ensures.step;
      lane_then = ap (λ (z : LaneState). z.lane) c.begin_round.ensures.after;
      rules_then = ap (λ (z : LaneState). z.rules) c.begin_round.ensures.after;
    } in
    let runs : IsRunning m.lane (journal_of m) run = subst (λ (l : Low). IsRunning l (journal_of m) run) (sym (ap (λ (z : LaneState). z.lane) c.begin_round.ensures.after)) c.in-Some.ensures.begins.runs in
    let by : IsRunBy (part_of m run.distributor) run = subst (λ (e : ℕ). IsRunBy (part_of m e) run) (sym c.in-Some.ensures.begins.distributor_is) c.in-Some.ensures.run_by in
    let above : (from : Journal) → HasSent from (journal_of x) → (n : ℕ) → m.last < n → sent n from ≡ None =
    λ from has i more. unsent-since from (journal_of x) x.last i has c.requires.keeps.keeps.numbered (subst (λ (k : ℕ). k < i) (ap (λ (z : LaneState). z.last) c.begin_round.ensures.after) more) in
    λ line o s stamp w same from has none. goes-on x m n d key run h line o s stamp w c.in_ok-end.end _ _ _ _ _ _ c.in_ok-end.ensures.whole from same none (c.rounds_are_wanted.ensures.whole m n run c.in_ok-end.end _ _ runs by c.in_ok-end.ensures.whole from (above from has))

pub returns-clause-finds : goal.returns-clause-finds
returns-clause-finds g c =
    let x = c.args.lane.now in
    let d = c.args.distributor in
    let key = c.args.key in
    let m = c.begin_round.new.lane in
    let run = c.in-Some.begun in
    let n = c.run_round.new.lane in
    let h : HasBegun x m n d key run = record {
      begins = rw c.in_ok-reserve.ensures.items at c.in-Some.ensures.begins;
      starts = c.rounds_are_wanted.ensures.begun x m d key run c.requires.keeps c.requires.none_runs (rw c.in_ok-reserve.ensures.items at c.in-Some.ensures.begins) c.in-Some.ensures.step;
      lane_then = ap (λ (z : LaneState). z.lane) c.begin_round.ensures.after;
      rules_then = ap (λ (z : LaneState). z.rules) c.begin_round.ensures.after;
    } in
    let end = c.in_ok-end.end in
    let whole = c.in_ok-end.ensures.whole in
    let kept = c.run_round.ensures.keeps in
    let rules_are : n.rules ≡ x.rules = ap (λ (z : LaneState). z.rules) c.run_round.ensures.after ∙ ap (λ (z : LaneState). z.rules) c.begin_round.ensures.after in
    let are : AreRules n.rules = subst AreRules (sym rules_are) (record { some = c.requires.set_up.acked; enough = c.requires.set_up.enough }) in
    λ line o s stamp w same from has none.
    finds-after c.operations_end.ensures.gives_up c.preparing_ends.ensures.round c.rounds_fall_short.ensures.counted c.rounds_fall_short.ensures.applies x m n d key run h line o s stamp w same from has none
    (ap (λ (z : LaneState). z.lane) c.run_round.ensures.after ∙ ap (λ (z : LaneState). z.lane) c.begin_round.ensures.after) c.requires.keeps kept c.run_round.ensures.none_runs
    end _ _ _ _ _ _ whole c.serving-serving.result c.serving-serving.ensures c.found_after.result c.found_after.ensures
    (somebody-lacks whole.before (journal_of n) whole.run end whole.ended whole.end n.rules.acks (c.rounds_reach_enough.ensures n.lane n.rules are (journal_of n) kept.keeps.legal _ _))

pub returns-in_err-reserve-clause-entries : goal.returns-in_err-reserve-clause-entries
returns-in_err-reserve-clause-entries g c =
    adds-none _ _ (rw c.in_err-reserve.ensures.items refl)

pub returns-in_default-clause-entries : goal.returns-in_default-clause-entries
returns-in_default-clause-entries g c =
    adds-none (journal_of c.args.lane.now) (journal_of c.begin_round.new.lane) (c.in_default.ensures.nothing ∙ rw c.in_ok-reserve.ensures.items refl)

pub returns-in_err-end-clause-entries : goal.returns-in_err-end-clause-entries
returns-in_err-end-clause-entries g c =
    let x = c.args.lane.now in
    let d = c.args.distributor in
    let key = c.args.key in
    let m = c.begin_round.new.lane in
    let run = c.in-Some.begun in
    let n = c.run_round.new.lane in
    adds-on (journal_of x) (journal_of m) (journal_of n) (adds-begun x.lane (journal_of x) (journal_of m) d key run (rw c.in_ok-reserve.ensures.items at c.in-Some.ensures.begins))
    (adds-cut m.lane run _ _ _ _ _ _ (journal_of m) (journal_of n) c.in_err-end.ensures.cut)

pub returns-clause-entries : goal.returns-clause-entries
returns-clause-entries g c =
    let x = c.args.lane.now in
    let d = c.args.distributor in
    let key = c.args.key in
    let m = c.begin_round.new.lane in
    let run = c.in-Some.begun in
    let n = c.run_round.new.lane in
    adds-on (journal_of x) (journal_of m) (journal_of n) (adds-begun x.lane (journal_of x) (journal_of m) d key run (rw c.in_ok-reserve.ensures.items at c.in-Some.ensures.begins))
    (adds-whole m.lane run c.in_ok-end.end _ _ _ _ _ _ (journal_of m) (journal_of n) c.in_ok-end.ensures.whole)

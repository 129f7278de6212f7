use Rattle.std.proofs.Common.{◌≡◌, ◌∙◌, ℕ, vec_len, ap, sym, subst}
use Rattle.bucket_ids.specs.Buckets.{Low, IsIn}
use Rattle.lane_keeping.specs.Asking.{OthersStay}
use Rattle.lane_states.specs.declared.lane_state.LaneState.{LaneState}
use Rattle.round_keeping.specs.declared.round_run.RoundRun.{RoundRun}
use Rattle.lane_states.specs.LaneStates.{journal_of, part_of}
use Rattle.round_keeping.specs.RoundRuns.{IsCutOff, IsRunBy, EndsRun}
use Rattle.round_keeping.proofs.RoundEnds.{run-by-goes, whole-of, cut-of}
use Rattle.lane_rounds.proofs.Shortages.{none-ended, once-ended}
use Rattle.lane_states.proofs.NodeSpans.{on-event, on-then}
use Rattle.lane_keeping.specs.LaneKeeping.{node_in}
use Rattle.lane_rounds.proofs.rounds.run_round.Goals as goal

pub end_round-end-requires-clause-run_by : goal.end_round-end-requires-clause-run_by
end_round-end-requires-clause-run_by g c =
    let x = c.args.lane.now in
    let e = c.send_all-sent.new.lane in
    let y = c.send_all-sent.new.run in
    let same = c.send_all-sent.ensures.same in
    let d : y.distributor ≡ c.args.run.now.distributor = ap (λ (z : RoundRun). z.distributor) same.run_is in
    subst (λ (z : LaneState). IsRunBy (part_of z y.distributor) y) (sym c.send_all-sent.ensures.after)
    (subst (λ (n : ℕ). IsRunBy (part_of x n) y) (sym d) (run-by-goes (part_of x c.args.run.now.distributor) c.args.run.now y same c.requires.run_by))

pub end_round-end-requires-clause-runs : goal.end_round-end-requires-clause-runs
end_round-end-requires-clause-runs g c =
    let x = c.args.lane.now in
    let e = c.send_all-sent.new.lane in
    let y = c.send_all-sent.new.run in
    let same = c.send_all-sent.ensures.same in
    subst (λ (l : Low). IsCutOff l (journal_of e) y) (sym (ap (λ (z : LaneState). z.lane) c.send_all-sent.ensures.after)) c.send_all-sent.ensures.cut

pub end_round-end-requires-clause-inside : goal.end_round-end-requires-clause-inside
end_round-end-requires-clause-inside g c =
    let x = c.args.lane.now in
    let e = c.send_all-sent.new.lane in
    let y = c.send_all-sent.new.run in
    let same = c.send_all-sent.ensures.same in
    subst (λ (l : Low). IsIn l y.key) (sym (ap (λ (z : LaneState). z.lane) c.send_all-sent.ensures.after)) (subst (λ (k : ℕ). IsIn x.lane k) (sym (ap (λ (z : RoundRun). z.key) same.run_is)) c.requires.inside)

pub returns-in-Ok-clause-job : goal.returns-in-Ok-clause-job
returns-in-Ok-clause-job g c =
    let x = c.args.lane.now in
    let e = c.send_all-sent.new.lane in
    let y = c.send_all-sent.new.run in
    let same = c.send_all-sent.ensures.same in
    let f = c.end_round-end.new.lane in
    let d : y.distributor ≡ c.args.run.now.distributor = ap (λ (z : RoundRun). z.distributor) same.run_is in (
      _,
      subst (λ (n : ℕ). EndsRun (part_of x n) (part_of f n) y c.end_round-end.result.row) d
          (subst (λ (z : LaneState). EndsRun (part_of z y.distributor) (part_of f y.distributor) y c.end_round-end.result.row) c.send_all-sent.ensures.after c.end_round-end.ensures.job),
    )

pub returns-in-Ok-clause-others : goal.returns-in-Ok-clause-others
returns-in-Ok-clause-others g c =
    let x = c.args.lane.now in
    let e = c.send_all-sent.new.lane in
    let y = c.send_all-sent.new.run in
    let same = c.send_all-sent.ensures.same in
    let f = c.end_round-end.new.lane in
    let d : y.distributor ≡ c.args.run.now.distributor = ap (λ (z : RoundRun). z.distributor) same.run_is in
    subst (λ (n : ℕ). OthersStay x.lane x.rules x.parts.items f.parts.items n) d
    (subst (λ (z : LaneState). OthersStay z.lane z.rules z.parts.items f.parts.items y.distributor) c.send_all-sent.ensures.after c.end_round-end.ensures.others)

pub returns-in-Ok-clause-parts : goal.returns-in-Ok-clause-parts
returns-in-Ok-clause-parts g c =
    let x = c.args.lane.now in
    let e = c.send_all-sent.new.lane in
    let y = c.send_all-sent.new.run in
    let same = c.send_all-sent.ensures.same in
    let f = c.end_round-end.new.lane in
    c.end_round-end.ensures.parts ∙ ap (λ (z : LaneState). vec_len z.parts) c.send_all-sent.ensures.after

pub returns-in-Err-clause-job : goal.returns-in-Err-clause-job
returns-in-Err-clause-job g c =
    let x = c.args.lane.now in
    let e = c.send_all-sent.new.lane in
    let y = c.send_all-sent.new.run in
    let same = c.send_all-sent.ensures.same in
    let f = c.end_round-end.new.lane in
    let d : y.distributor ≡ c.args.run.now.distributor = ap (λ (z : RoundRun). z.distributor) same.run_is in (
      _,
      subst (λ (n : ℕ). EndsRun (part_of x n) (part_of f n) y c.end_round-end.result.row) d
          (subst (λ (z : LaneState). EndsRun (part_of z y.distributor) (part_of f y.distributor) y c.end_round-end.result.row) c.send_all-sent.ensures.after c.end_round-end.ensures.job),
    )

pub returns-in-Ok-clause-whole : goal.returns-in-Ok-clause-whole
returns-in-Ok-clause-whole g c =
    let x = c.args.lane.now in
    let e = c.send_all-sent.new.lane in
    let y = c.send_all-sent.new.run in
    let same = c.send_all-sent.ensures.same in
    let f = c.end_round-end.new.lane in
    let last : f.last ≡ e.last = ap (λ (z : LaneState). z.last) c.end_round-end.ensures.after in
    let late : f.late.late ≡ e.late.late = ap (λ (z : LaneState). z.late.late) c.end_round-end.ensures.after in
    whole-of x.lane c.args.run.now y c.end_round-end.result _ _ x.last f.last e.last x.late.late f.late.late e.late.late (journal_of x) (journal_of e) (journal_of f) last late same c.in-Ok.ensures.over c.send_all-sent.ensures.on c.in-Ok.ensures.runs.knows c.end_round-end.ensures.grows c.end_round-end.ensures.end

pub returns-in-Err-clause-cut : goal.returns-in-Err-clause-cut
returns-in-Err-clause-cut g c =
    let x = c.args.lane.now in
    let e = c.send_all-sent.new.lane in
    let y = c.send_all-sent.new.run in
    let same = c.send_all-sent.ensures.same in
    let f = c.end_round-end.new.lane in
    let last : f.last ≡ e.last = ap (λ (z : LaneState). z.last) c.end_round-end.ensures.after in
    let late : f.late.late ≡ e.late.late = ap (λ (z : LaneState). z.late.late) c.end_round-end.ensures.after in
    cut-of x.lane c.args.run.now y _ _ x.last f.last e.last x.late.late f.late.late e.late.late (journal_of x) (journal_of e) (journal_of f) last late same c.send_all-sent.ensures.on c.send_all-sent.ensures.cut c.end_round-end.ensures.grows

pub returns-in-Ok-clause-carried : goal.returns-in-Ok-clause-carried
returns-in-Ok-clause-carried g c = c.end_round-end.ensures.carried _ c.send_all-sent.ensures.carried

pub returns-in-Err-clause-carried : goal.returns-in-Err-clause-carried
returns-in-Err-clause-carried g c = c.end_round-end.ensures.carried _ c.send_all-sent.ensures.carried

pub returns-in-Ok-clause-took : goal.returns-in-Ok-clause-took
returns-in-Ok-clause-took g c =
    let x = c.args.lane.now in
    let e = c.send_all-sent.new.lane in
    let f = c.end_round-end.new.lane in
    on-then x e f c.send_all-sent.ensures.took (on-event e f _ tt c.end_round-end.ensures.grows (λ n. ap (λ (w : LaneState). node_in w.nodes.items n) c.end_round-end.ensures.after))

pub returns-in-Err-clause-took : goal.returns-in-Err-clause-took
returns-in-Err-clause-took g c =
    let x = c.args.lane.now in
    let e = c.send_all-sent.new.lane in
    let f = c.end_round-end.new.lane in
    on-then x e f c.send_all-sent.ensures.took (on-event e f _ tt c.end_round-end.ensures.grows (λ n. ap (λ (w : LaneState). node_in w.nodes.items n) c.end_round-end.ensures.after))

pub returns-in-Ok-clause-at_once : goal.returns-in-Ok-clause-at_once
returns-in-Ok-clause-at_once g c it had =
    let x = c.args.lane.now in
    let e = c.send_all-sent.new.lane in
    let f = c.end_round-end.new.lane in
    once-ended x.last e.last f.last (journal_of e) (journal_of f) (ap (λ (z : LaneState). z.last) c.end_round-end.ensures.after) _ _ _ c.end_round-end.ensures.grows (c.send_all-sent.ensures.at_once it had)

pub returns-in-Err-clause-at_once : goal.returns-in-Err-clause-at_once
returns-in-Err-clause-at_once g c it had =
    let x = c.args.lane.now in
    let e = c.send_all-sent.new.lane in
    let f = c.end_round-end.new.lane in
    once-ended x.last e.last f.last (journal_of e) (journal_of f) (ap (λ (z : LaneState). z.last) c.end_round-end.ensures.after) _ _ _ c.end_round-end.ensures.grows (c.send_all-sent.ensures.at_once it had)

pub returns-in-Ok-clause-none_is_short : goal.returns-in-Ok-clause-none_is_short
returns-in-Ok-clause-none_is_short g c it had =
    let x = c.args.lane.now in
    let e = c.send_all-sent.new.lane in
    let f = c.end_round-end.new.lane in
    none-ended x.last e.last f.last (journal_of e) (journal_of f) (ap (λ (z : LaneState). z.last) c.end_round-end.ensures.after) _ _ _ c.end_round-end.ensures.grows (c.in-Ok.ensures.none_is_short it had)

use Rattle.std.proofs.Common.{◌∙◌, false, ap, refl, sym, subst}
use Rattle.bucket_ids.specs.Buckets.{Low}
use Rattle.lane_states.specs.declared.lane_state.LaneState.{LaneState}
use Rattle.lane_states.specs.LaneStates.{journal_of}
use Rattle.round_keeping.specs.RoundRuns.{IsRunning}
use Rattle.round_keeping.specs.RoundShortages.{wants_memory}
use Rattle.lane_rounds.proofs.Shortages.{not-ended, had-as, settled-as, none-nothing, none-step, once-step, none-idle, once-none}
use Rattle.round_keeping.proofs.Running.{goes-none, goes-on}
use Rattle.round_keeping.proofs.RoundTelling.{cut-as}
use Rattle.round_keeping.proofs.Runs.{runs-nothing, runs-then, runs-of}
use Rattle.lane_states.proofs.NodeSpans.{on-same, on-then}
use Rattle.lane_rounds.proofs.rounds.send_all.Goals as goal

pub sending-init : goal.sending-init
sending-init g c =
    record {
      keeps = c.requires.keeps;
      took = on-same c.args.lane.now c.args.lane.now refl (λ n. refl);
      spare = c.requires.spare;
      runs = c.requires.runs;
      told = c.requires.told;
      planned = refl;
      kind = refl;
      carried = c.requires.carried;
      on = runs-nothing _ _ _ _ _ _ _;
      same = goes-none _;
      fine = λ it had. had;
      none_is_short = λ it had. none-nothing _ _ _ refl;
      after = refl;
    }

pub sending-preserved : goal.sending-preserved
sending-preserved g c =
    let l = c.sending in
    let e = c.step_round.new.lane in
    let n = c.in_ok-step_round.ensures in
    record {
      keeps = n.keeps;
      took = on-then c.args.lane.now l.lane e l.invariant.took n.took;
      spare = n.spare;
      runs = subst (λ (k : Low). IsRunning k (journal_of e) c.step_round.new.run) (ap (λ (z : LaneState). z.lane) l.invariant.after) n.runs;
      told = n.told;
      planned = n.planned ∙ l.invariant.planned;
      kind = n.kind ∙ l.invariant.kind;
      carried = n.carried;
      on = runs-then _ _ _ _ _ _ _ _ _ _ _ _ _ _ _ l.invariant.on
          (runs-of l.lane.lane c.args.lane.now.lane l.run c.args.run.now _ _ _ _ _ _ _ _ (ap (λ (z : LaneState). z.lane) l.invariant.after) l.invariant.same n.on);
      same = goes-on _ _ _ l.invariant.same n.same;
      fine = λ it had. had-as c.step_round.new.run (sym c.wants_memory.ensures ∙ not-ended c.args.at_shortage c.wants_memory.result (sym c.if-ends.ensures) it);
      none_is_short = λ it had. none-step l.lane.lane l.run.distributor l.run.state _ _ c.args.lane.now.last l.lane.last e.last _ _ (journal_of l.lane) (journal_of e) n.on (l.invariant.none_is_short it had) (n.next c.if-branch.true)
          (settled-as e.last (journal_of e) (wants_memory c.step_round.new.run) false (sym (sym c.wants_memory.ensures ∙ not-ended c.args.at_shortage c.wants_memory.result (sym c.if-ends.ensures) it)) (n.settled c.if-branch.true (l.invariant.fine it had)));
      after = n.after ∙ ap (λ (z : LaneState). record z { journal = e.journal; nodes = e.nodes; late = e.late; last = e.last }) l.invariant.after;
    }

pub returns-in_err-step_round-clause-on : goal.returns-in_err-step_round-clause-on
returns-in_err-step_round-clause-on g c =
    let l = c.sending in
    let e = c.step_round.new.lane in
    runs-then _ _ _ _ _ _ _ _ _ _ _ _ _ _ _ l.invariant.on
    (runs-of l.lane.lane c.args.lane.now.lane l.run c.args.run.now _ _ _ _ _ _ _ _ (ap (λ (z : LaneState). z.lane) l.invariant.after) l.invariant.same c.in_err-step_round.ensures.on)

pub returns-clause-on : goal.returns-clause-on
returns-clause-on g c =
    let l = c.sending in
    let e = c.step_round.new.lane in
    runs-then _ _ _ _ _ _ _ _ _ _ _ _ _ _ _ l.invariant.on
    (runs-of l.lane.lane c.args.lane.now.lane l.run c.args.run.now _ _ _ _ _ _ _ _ (ap (λ (z : LaneState). z.lane) l.invariant.after) l.invariant.same c.in_ok-step_round.ensures.on)

pub returns-clause-cut : goal.returns-clause-cut
returns-clause-cut g c =
    let l = c.sending in
    let e = c.step_round.new.lane in
    let y = c.step_round.new.run in
    cut-as c.args.lane.now.lane (journal_of e) y y.round (subst (λ (k : Low). IsRunning k (journal_of e) y) (ap (λ (z : LaneState). z.lane) l.invariant.after) c.in_ok-step_round.ensures.runs) refl

pub returns-in_err-step_round-clause-took : goal.returns-in_err-step_round-clause-took
returns-in_err-step_round-clause-took g c = on-then c.args.lane.now c.sending.lane c.step_round.new.lane c.sending.invariant.took c.in_err-step_round.ensures.took

pub returns-clause-took : goal.returns-clause-took
returns-clause-took g c = on-then c.args.lane.now c.sending.lane c.step_round.new.lane c.sending.invariant.took c.in_ok-step_round.ensures.took

pub returns-clause-fine : goal.returns-clause-fine
returns-clause-fine g c it had = c.in_ok-step_round.ensures.minds c.if-branch.false (c.sending.invariant.fine it had)

pub returns-clause-none_is_short : goal.returns-clause-none_is_short
returns-clause-none_is_short g c it had =
    let l = c.sending in
    let e = c.step_round.new.lane in
    let n = c.in_ok-step_round.ensures in
    none-idle l.lane.lane l.run.distributor l.run.state _ _ c.args.lane.now.last l.lane.last e.last _ _ (journal_of l.lane) (journal_of e) n.on (l.invariant.none_is_short it had) (n.still c.if-branch.false)

pub returns-clause-at_once : goal.returns-clause-at_once
returns-clause-at_once g c it had = once-none _ _ _ (returns-clause-none_is_short g c it had)

pub returns-in_err-step_round-clause-at_once : goal.returns-in_err-step_round-clause-at_once
returns-in_err-step_round-clause-at_once g c it had =
    let l = c.sending in
    let e = c.step_round.new.lane in
    let n = c.in_err-step_round.ensures in
    once-none _ _ _ (none-idle l.lane.lane l.run.distributor l.run.state _ _ c.args.lane.now.last l.lane.last e.last _ _ (journal_of l.lane) (journal_of e) n.on (l.invariant.none_is_short it had) n.unsent)

pub returns-then-ends-clause-on : goal.returns-then-ends-clause-on
returns-then-ends-clause-on g c =
    let l = c.sending in
    let e = c.step_round.new.lane in
    runs-then _ _ _ _ _ _ _ _ _ _ _ _ _ _ _ l.invariant.on
    (runs-of l.lane.lane c.args.lane.now.lane l.run c.args.run.now _ _ _ _ _ _ _ _ (ap (λ (z : LaneState). z.lane) l.invariant.after) l.invariant.same c.in_ok-step_round.ensures.on)

pub returns-then-ends-clause-cut : goal.returns-then-ends-clause-cut
returns-then-ends-clause-cut g c =
    let l = c.sending in
    let e = c.step_round.new.lane in
    let y = c.step_round.new.run in
    cut-as c.args.lane.now.lane (journal_of e) y y.round (subst (λ (k : Low). IsRunning k (journal_of e) y) (ap (λ (z : LaneState). z.lane) l.invariant.after) c.in_ok-step_round.ensures.runs) refl

pub returns-then-ends-clause-took : goal.returns-then-ends-clause-took
returns-then-ends-clause-took g c = on-then c.args.lane.now c.sending.lane c.step_round.new.lane c.sending.invariant.took c.in_ok-step_round.ensures.took

pub returns-then-ends-clause-at_once : goal.returns-then-ends-clause-at_once
returns-then-ends-clause-at_once g c it had =
    let l = c.sending in
    let e = c.step_round.new.lane in
    let n = c.in_ok-step_round.ensures in
    once-step l.lane.lane l.run.distributor l.run.state _ _ c.args.lane.now.last l.lane.last e.last _ _ (journal_of l.lane) (journal_of e) n.on (l.invariant.none_is_short it had) (n.next c.if-branch.true)

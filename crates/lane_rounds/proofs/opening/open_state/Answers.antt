use Rattle.std.proofs.Common.{◌≡◌, List, ap, sym, subst, refl}
use Rattle.lane_journals.specs.declared.event.LaneEvent.{LaneEvent}
use Rattle.lane_states.specs.declared.lane_state.LaneState.{LaneState}
use Rattle.lane_states.specs.LaneStates.{journal_of, part_of}
use Rattle.lane_rounds.specs.Openings.{EndsAsking, StopsAfter, EndsOpening}
use Rattle.lane_rounds.proofs.Staying.{stays-ended, stays-stopped, RunsAs, IsIdleIn, runs-stay, runs-opened, idle-stays, idle-opened}
use Rattle.lane_rounds.proofs.Askings.{rests-ended, rests-stopped}
use Rattle.lane_rounds.proofs.Shortages.{none-same, once-same}
use Rattle.lane_states.proofs.NodeSpans.{on-same, on-then}
use Rattle.lane_keeping.specs.LaneKeeping.{node_in}
use Rattle.lane_rounds.proofs.opening.open_state.Goals as goal

pub returns-in-Ok-clause-ends : goal.returns-in-Ok-clause-ends
returns-in-Ok-clause-ends g c =
    let y = c.ask_all.new.lane in
    let same : journal_of c.give_up.new.lane ≡ journal_of y = ap (λ (w : LaneState). journal_of w) c.give_up.ensures.after in
    record {
      part = part_of y c.args.distributor;
      ends = subst (λ (J : List LaneEvent). EndsAsking c.args.lane.now c.args.distributor c.in-Ok.end J (part_of y c.args.distributor)) (sym same) c.in-Ok.ensures.ends;
      gives_up = c.give_up.ensures.gives_up;
    }

pub returns-in-Ok-clause-resting : goal.returns-in-Ok-clause-resting
returns-in-Ok-clause-resting g c =
    let y = c.ask_all.new.lane in
    let same : journal_of c.give_up.new.lane ≡ journal_of y = ap (λ (w : LaneState). journal_of w) c.give_up.ensures.after in
    let e : EndsOpening c.args.lane.now c.give_up.new.lane c.args.distributor c.in-Ok.end = record {
      part = part_of y c.args.distributor;
      ends = subst (λ (J : List LaneEvent). EndsAsking c.args.lane.now c.args.distributor c.in-Ok.end J (part_of y c.args.distributor)) (sym same) c.in-Ok.ensures.ends;
      gives_up = c.give_up.ensures.gives_up;
    } in
    rests-ended c.args.lane.now c.give_up.new.lane c.args.distributor c.in-Ok.end e

pub returns-in-Err-clause-stops : goal.returns-in-Err-clause-stops
returns-in-Err-clause-stops g c =
    let y = c.ask_all.new.lane in
    let same : journal_of c.give_up-in-Err.new.lane ≡ journal_of y = ap (λ (w : LaneState). journal_of w) c.give_up-in-Err.ensures.after in
    record {
      part = part_of y c.args.distributor;
      stops = subst (λ (J : List LaneEvent). StopsAfter c.args.lane.now c.args.distributor J (part_of y c.args.distributor)) (sym same) c.in-Err.ensures.stops;
      gives_up = c.give_up-in-Err.ensures.gives_up;
    }

pub returns-in-Err-clause-resting : goal.returns-in-Err-clause-resting
returns-in-Err-clause-resting g c =
    rests-stopped c.args.lane.now c.args.distributor (journal_of c.ask_all.new.lane) (part_of c.ask_all.new.lane c.args.distributor) (part_of c.give_up-in-Err.new.lane c.args.distributor)
    c.in-Err.ensures.stops c.give_up-in-Err.ensures.gives_up

pub returns-in-Ok-clause-rounds : goal.returns-in-Ok-clause-rounds
returns-in-Ok-clause-rounds g c =
    let x = c.args.lane.now in
    let y = c.ask_all.new.lane in
    let d = c.args.distributor in
    subst (λ (J : List LaneEvent). RunsAs (journal_of x) J) (sym (ap (λ (w : LaneState). journal_of w) c.give_up.ensures.after))
    (stays-ended (RunsAs (journal_of x)) (runs-stay (journal_of x)) (runs-opened (journal_of x)) x d c.in-Ok.end.missing c.in-Ok.end.short (journal_of y) (part_of y d) c.in-Ok.ensures.ends (λ v b. refl))

pub returns-in-Ok-clause-idle : goal.returns-in-Ok-clause-idle
returns-in-Ok-clause-idle g c = λ idle.
    let x = c.args.lane.now in
    let y = c.ask_all.new.lane in
    let d = c.args.distributor in
    subst IsIdleIn (sym (ap (λ (w : LaneState). journal_of w) c.give_up.ensures.after))
    (stays-ended IsIdleIn idle-stays idle-opened x d c.in-Ok.end.missing c.in-Ok.end.short (journal_of y) (part_of y d) c.in-Ok.ensures.ends idle)

pub returns-in-Err-clause-rounds : goal.returns-in-Err-clause-rounds
returns-in-Err-clause-rounds g c =
    let x = c.args.lane.now in
    let y = c.ask_all.new.lane in
    let d = c.args.distributor in
    subst (λ (J : List LaneEvent). RunsAs (journal_of x) J) (sym (ap (λ (w : LaneState). journal_of w) c.give_up-in-Err.ensures.after))
    (stays-stopped (RunsAs (journal_of x)) (runs-stay (journal_of x)) (runs-opened (journal_of x)) x d (journal_of y) (part_of y d) c.in-Err.ensures.stops (λ v b. refl))

pub returns-in-Err-clause-idle : goal.returns-in-Err-clause-idle
returns-in-Err-clause-idle g c = λ idle.
    let x = c.args.lane.now in
    let y = c.ask_all.new.lane in
    let d = c.args.distributor in
    subst IsIdleIn (sym (ap (λ (w : LaneState). journal_of w) c.give_up-in-Err.ensures.after))
    (stays-stopped IsIdleIn idle-stays idle-opened x d (journal_of y) (part_of y d) c.in-Err.ensures.stops idle)

pub returns-in-Ok-clause-took : goal.returns-in-Ok-clause-took
returns-in-Ok-clause-took g c =
    let y = c.ask_all.new.lane in
    let e = c.give_up.new.lane in
    on-then c.args.lane.now y e c.in-Ok.ensures.took (on-same y e (ap (λ (w : LaneState). journal_of w) c.give_up.ensures.after) (λ n. ap (λ (w : LaneState). node_in w.nodes.items n) c.give_up.ensures.after))

pub returns-in-Err-clause-took : goal.returns-in-Err-clause-took
returns-in-Err-clause-took g c =
    let y = c.ask_all.new.lane in
    let e = c.give_up-in-Err.new.lane in
    on-then c.args.lane.now y e c.in-Err.ensures.took (on-same y e (ap (λ (w : LaneState). journal_of w) c.give_up-in-Err.ensures.after) (λ n. ap (λ (w : LaneState). node_in w.nodes.items n) c.give_up-in-Err.ensures.after))

pub returns-in-Ok-clause-none_is_short : goal.returns-in-Ok-clause-none_is_short
returns-in-Ok-clause-none_is_short g c it =
    let y = c.ask_all.new.lane in
    let e = c.give_up.new.lane in
    none-same c.args.lane.now.last y.last e.last (journal_of y) (journal_of e) (ap (λ (w : LaneState). w.last) c.give_up.ensures.after) (ap (λ (w : LaneState). journal_of w) c.give_up.ensures.after) (c.in-Ok.ensures.none_is_short it)

pub returns-in-Ok-clause-at_once : goal.returns-in-Ok-clause-at_once
returns-in-Ok-clause-at_once g c it =
    let y = c.ask_all.new.lane in
    let e = c.give_up.new.lane in
    once-same c.args.lane.now.last y.last e.last (journal_of y) (journal_of e) (ap (λ (w : LaneState). w.last) c.give_up.ensures.after) (ap (λ (w : LaneState). journal_of w) c.give_up.ensures.after) (c.in-Ok.ensures.at_once it)

pub returns-in-Err-clause-at_once : goal.returns-in-Err-clause-at_once
returns-in-Err-clause-at_once g c it =
    let y = c.ask_all.new.lane in
    let e = c.give_up-in-Err.new.lane in
    once-same c.args.lane.now.last y.last e.last (journal_of y) (journal_of e) (ap (λ (w : LaneState). w.last) c.give_up-in-Err.ensures.after) (ap (λ (w : LaneState). journal_of w) c.give_up-in-Err.ensures.after) (c.in-Err.ensures.at_once it)

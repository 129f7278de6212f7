use Rattle.std.proofs.Common.{◌∙◌, ap, refl, sym, subst}
use Rattle.lane_states.specs.declared.lane_state.LaneState.{LaneState}
use Rattle.lane_rounds.specs.declared.opening.Asking.{Asking}
use Rattle.lane_states.specs.LaneStates.{journal_of, part_of}
use Rattle.lane_rounds.specs.Openings.{AsksOn, AsksOne, IsOpenedNow, IsLacking, Nobody, StopsAfter}
use Rattle.lane_rounds.proofs.Askings.{moved, fewer-left, asked-more, others-more, opened-after, lacks-after, stops-after, on-err}
use Rattle.lane_rounds.proofs.Shortages.{not-ended, or-none, none-nothing, none-asked, once-asked, none-opened, none-same, once-none}
use Rattle.lane_states.proofs.Giving.{gives_same, gives_then}
use Rattle.lane_states.proofs.NodeSpans.{on-same, on-then}
use Rattle.lane_rounds.proofs.opening.ask_all.Goals as goal

pub asking-init : goal.asking-init
asking-init g c = record {
  keeps = c.requires.keeps;
  took = on-same c.args.lane.now c.args.lane.now refl (λ n. refl);
  spare = c.requires.spare;
  carried = c.requires.carried;
  planned = refl;
  kind = refl;
  gives = gives_same _ _ refl;
  opening = c.requires.opening;
  asked = Nobody;
  fine = λ it. refl;
  none_is_short = λ it. none-nothing _ _ _ refl;
  others = λ e off. refl;
  after = refl;
  parts = refl;
}

pub asking-smaller : goal.asking-smaller
asking-smaller g c =
    let y = c.asking.lane in
    let z = c.ask_next.new.lane in
    let d = c.args.distributor in
    let one : AsksOne y z d c.in-Further.one = subst (λ (a : Asking). AsksOn y z d a) c.in-Further.is c.in_ok-one.ensures.asks in
    fewer-left y z d c.in-Further.one one

pub asking-preserved : goal.asking-preserved
asking-preserved g c =
    let x = c.args.lane.now in
    let y = c.asking.lane in
    let z = c.ask_next.new.lane in
    let d = c.args.distributor in
    let i = c.asking.invariant in
    let one : AsksOne y z d c.in-Further.one = subst (λ (a : Asking). AsksOn y z d a) c.in-Further.is c.in_ok-one.ensures.asks in
    record {
      keeps = c.in_ok-one.ensures.keeps;
      took = on-then x y z i.took c.in_ok-one.ensures.took;
      spare = c.in_ok-one.ensures.spare;
      carried = c.in_ok-one.ensures.carried;
      planned = c.in_ok-one.ensures.planned ∙ i.planned;
      kind = c.in_ok-one.ensures.kind ∙ i.kind;
      gives = gives_then _ _ _ i.gives c.in_ok-one.ensures.gives;
      opening = one.opening;
      asked = rw c.either-short.ensures (asked-more x y z d c.asking.short i.keeps i.asked i.after c.in-Further.one one);
      fine = λ it. not-ended c.args.at_shortage c.either-short.result (sym c.if-ends.ensures) it;
      none_is_short = λ it. none-asked x.last y.last z.last one.message (journal_of y) (journal_of z) one.gone one.next (i.none_is_short it) c.in-Further.one
          ((or-none c.asking.short c.in-Further.one (sym c.either-short.ensures ∙ not-ended c.args.at_shortage c.either-short.result (sym c.if-ends.ensures) it)).1) one.settled;
      others = others-more x y z d c.asking.short i.keeps i.asked i.after i.others c.in_ok-one.ensures.others;
      after = c.in_ok-one.ensures.after ∙ ap (λ (w : LaneState). moved w z) i.after;
      parts = c.in_ok-one.ensures.parts ∙ i.parts;
    }

pub returns-in-Opened-clause-ends : goal.returns-in-Opened-clause-ends
returns-in-Opened-clause-ends g c =
    let y = c.asking.lane in
    let z = c.ask_next.new.lane in
    let i = c.asking.invariant in
    let o : IsOpenedNow y z c.args.distributor = subst (λ (a : Asking). AsksOn y z c.args.distributor a) c.in-Opened.is c.in_ok-one.ensures.asks in
    opened-after c.args.lane.now y z c.args.distributor c.asking.short i.keeps i.asked i.after o

pub returns-in-Lacks-clause-ends : goal.returns-in-Lacks-clause-ends
returns-in-Lacks-clause-ends g c =
    let y = c.asking.lane in
    let z = c.ask_next.new.lane in
    let i = c.asking.invariant in
    let l : IsLacking y z c.args.distributor c.in-Lacks.missing = subst (λ (a : Asking). AsksOn y z c.args.distributor a) c.in-Lacks.is c.in_ok-one.ensures.asks in
    lacks-after c.args.lane.now y z c.args.distributor c.asking.short i.keeps i.asked i.after c.in-Lacks.missing l

pub returns-in_err-one-clause-stops : goal.returns-in_err-one-clause-stops
returns-in_err-one-clause-stops g c =
    let x = c.args.lane.now in
    let y = c.asking.lane in
    let z = c.ask_next.new.lane in
    let d = c.args.distributor in
    let i = c.asking.invariant in
    on-err _ (StopsAfter x d (journal_of z) (part_of z d)) (stops-after x y z d c.asking.short i.keeps i.asked i.after i.opening c.in_err-one.ensures.stops)

pub returns-in-Opened-clause-gives : goal.returns-in-Opened-clause-gives
returns-in-Opened-clause-gives g c = gives_then _ _ _ c.asking.invariant.gives c.in_ok-one.ensures.gives

pub returns-in-Lacks-clause-gives : goal.returns-in-Lacks-clause-gives
returns-in-Lacks-clause-gives g c = gives_then _ _ _ c.asking.invariant.gives c.in_ok-one.ensures.gives

pub returns-in_err-one-clause-gives : goal.returns-in_err-one-clause-gives
returns-in_err-one-clause-gives g c = gives_then _ _ _ c.asking.invariant.gives c.in_err-one.ensures.gives

pub returns-then-ends-clause-gives : goal.returns-then-ends-clause-gives
returns-then-ends-clause-gives g c = gives_then _ _ _ c.asking.invariant.gives c.in_ok-one.ensures.gives

pub returns-in-Opened-clause-took : goal.returns-in-Opened-clause-took
returns-in-Opened-clause-took g c = on-then c.args.lane.now c.asking.lane c.ask_next.new.lane c.asking.invariant.took c.in_ok-one.ensures.took

pub returns-in-Lacks-clause-took : goal.returns-in-Lacks-clause-took
returns-in-Lacks-clause-took g c = on-then c.args.lane.now c.asking.lane c.ask_next.new.lane c.asking.invariant.took c.in_ok-one.ensures.took

pub returns-in_err-one-clause-took : goal.returns-in_err-one-clause-took
returns-in_err-one-clause-took g c = on-then c.args.lane.now c.asking.lane c.ask_next.new.lane c.asking.invariant.took c.in_err-one.ensures.took

pub returns-in-Opened-clause-none_is_short : goal.returns-in-Opened-clause-none_is_short
returns-in-Opened-clause-none_is_short g c it =
    let y = c.asking.lane in
    let z = c.ask_next.new.lane in
    let o : IsOpenedNow y z c.args.distributor = subst (λ (a : Asking). AsksOn y z c.args.distributor a) c.in-Opened.is c.in_ok-one.ensures.asks in
    none-opened c.args.lane.now.last y.last z.last (journal_of y) (journal_of z) o.last _ _ _ o.grows (c.asking.invariant.none_is_short it)

pub returns-in-Opened-clause-at_once : goal.returns-in-Opened-clause-at_once
returns-in-Opened-clause-at_once g c it = once-none _ _ _ (returns-in-Opened-clause-none_is_short g c it)

pub returns-in-Lacks-clause-none_is_short : goal.returns-in-Lacks-clause-none_is_short
returns-in-Lacks-clause-none_is_short g c it =
    let y = c.asking.lane in
    let z = c.ask_next.new.lane in
    let l : IsLacking y z c.args.distributor c.in-Lacks.missing = subst (λ (a : Asking). AsksOn y z c.args.distributor a) c.in-Lacks.is c.in_ok-one.ensures.asks in
    none-same c.args.lane.now.last y.last z.last (journal_of y) (journal_of z) l.last l.same (c.asking.invariant.none_is_short it)

pub returns-in-Lacks-clause-at_once : goal.returns-in-Lacks-clause-at_once
returns-in-Lacks-clause-at_once g c it = once-none _ _ _ (returns-in-Lacks-clause-none_is_short g c it)

pub returns-in_err-one-clause-at_once : goal.returns-in_err-one-clause-at_once
returns-in_err-one-clause-at_once g c it =
    let y = c.asking.lane in
    let z = c.ask_next.new.lane in
    once-none _ _ _ (none-same c.args.lane.now.last y.last z.last (journal_of y) (journal_of z) c.in_err-one.ensures.stops.last c.in_err-one.ensures.stops.same (c.asking.invariant.none_is_short it))

pub returns-then-ends-clause-at_once : goal.returns-then-ends-clause-at_once
returns-then-ends-clause-at_once g c it =
    let x = c.args.lane.now in
    let y = c.asking.lane in
    let z = c.ask_next.new.lane in
    let d = c.args.distributor in
    let one : AsksOne y z d c.in-Further.one = subst (λ (a : Asking). AsksOn y z d a) c.in-Further.is c.in_ok-one.ensures.asks in
    once-asked x.last y.last z.last one.message (journal_of y) (journal_of z) one.gone one.next (c.asking.invariant.none_is_short it)

pub returns-then-ends-clause-stops : goal.returns-then-ends-clause-stops
returns-then-ends-clause-stops g c =
    let x = c.args.lane.now in
    let y = c.asking.lane in
    let z = c.ask_next.new.lane in
    let d = c.args.distributor in
    let i = c.asking.invariant in
    let one : AsksOne y z d c.in-Further.one = subst (λ (a : Asking). AsksOn y z d a) c.in-Further.is c.in_ok-one.ensures.asks in
    record { part = part_of z d; short = _; asked = asked-more x y z d c.asking.short i.keeps i.asked i.after c.in-Further.one one; opening = one.opening; after = refl }

pub returns-then-ends-clause-took : goal.returns-then-ends-clause-took
returns-then-ends-clause-took g c = on-then c.args.lane.now c.asking.lane c.ask_next.new.lane c.asking.invariant.took c.in_ok-one.ensures.took

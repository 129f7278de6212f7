use Rattle.std.proofs.Common.{◌∙◌, ◌+◌, ℕ, ap, refl, subst}
use Rattle.lane_states.specs.declared.lane_state.LaneState.{LaneState}
use Rattle.lane_rounds.specs.declared.opening.OpeningStep.{OpeningStep}
use Rattle.lane_states.specs.LaneStates.{journal_of, part_of}
use Rattle.lane_states.specs.Growing.{IsSettled}
use Rattle.lane_rounds.specs.Openings.{IsNext, IsAskNext, IsOpenedNow}
use Rattle.lane_rounds.proofs.AskExchanges.{asked-small}
use Rattle.lane_rounds.proofs.Going.{stays-carried, other-carried, gone-by}
use Rattle.lane_rounds.proofs.Opened.{more-asked, opening-after}
use Rattle.lane_states.proofs.Giving.{gives_same}
use Rattle.lane_states.proofs.NodeSpans.{on-same, on-then}
use Rattle.lane_rounds.proofs.NodeSpans.{on-next}
use Rattle.lane_keeping.specs.LaneKeeping.{node_in}
use Rattle.lane_rounds.proofs.opening.ask_next.Goals as goal

pub ask-requires-clause-carried : goal.ask-requires-clause-carried
ask-requires-clause-carried g c =
    let x = c.args.lane.now in
    let y = c.opening_step.new.lane in
    let a : IsAskNext x y c.args.distributor c.in-Asks.message = subst (λ (s : OpeningStep). IsNext x y c.args.distributor s) c.in-Asks.is c.in_ok-message.ensures.next in
    stays-carried x y _ _ a.same (ap (λ (z : LaneState). z.late.late) c.in_ok-message.ensures.after) (ap (λ (z : LaneState). z.last) c.in_ok-message.ensures.after) refl c.requires.carried

pub ask-requires-clause-small : goal.ask-requires-clause-small
ask-requires-clause-small g c =
    let x = c.args.lane.now in
    let y = c.opening_step.new.lane in
    let a : IsAskNext x y c.args.distributor c.in-Asks.message = subst (λ (s : OpeningStep). IsNext x y c.args.distributor s) c.in-Asks.is c.in_ok-message.ensures.next in
    asked-small (part_of x c.args.distributor) (part_of y c.args.distributor) c.in-Asks.message a.asks

pub returns-in_ok-short-in-Asks-clause-asks : goal.returns-in_ok-short-in-Asks-clause-asks
returns-in_ok-short-in-Asks-clause-asks g c =
    let x = c.args.lane.now in
    let y = c.opening_step.new.lane in
    let z = c.ask.new.lane in
    let d = c.args.distributor in
    let m = c.in-Asks.message in
    let a : IsAskNext x y d m = subst (λ (s : OpeningStep). IsNext x y d s) c.in-Asks.is c.in_ok-message.ensures.next in
    record {
      asked = part_of y d;
      message = m;
      asks = a.asks;
      gone = gone-by x y z m _ _ (ap (λ (w : LaneState). w.last) c.in_ok-message.ensures.after) a.same c.in_ok-short-in-Asks.ensures.went;
      next = c.in_ok-short-in-Asks.ensures.went.next ∙ ap (λ (i : ℕ). i + 1) (ap (λ (w : LaneState). w.last) c.in_ok-message.ensures.after);
      settled = subst (λ (i : ℕ). IsSettled (i + 1) (journal_of z) c.in_ok-short-in-Asks.short) (ap (λ (w : LaneState). w.last) c.in_ok-message.ensures.after) c.in_ok-short-in-Asks.ensures.settled;
      heard = c.in_ok-short-in-Asks.ensures.told;
      more = more-asked (part_of x d) (part_of y d) (part_of z d) m a.asks c.in_ok-short-in-Asks.ensures.told;
      opening = opening-after (part_of x d) (part_of y d) (part_of z d) m c.requires.opening a.asks c.in_ok-short-in-Asks.ensures.told;
    }

pub returns-in-Opened-clause-carried : goal.returns-in-Opened-clause-carried
returns-in-Opened-clause-carried g c =
    let x = c.args.lane.now in
    let y = c.opening_step.new.lane in
    let a : IsOpenedNow x y c.args.distributor = subst (λ (s : OpeningStep). IsNext x y c.args.distributor s) c.in-Opened.is c.in_ok-message.ensures.next in
    other-carried x y _ _ tt a.grows (ap (λ (z : LaneState). z.late.late) c.in_ok-message.ensures.after) (ap (λ (z : LaneState). z.last) c.in_ok-message.ensures.after) c.requires.carried

pub returns-in_err-message-clause-gives : goal.returns-in_err-message-clause-gives
returns-in_err-message-clause-gives g c = gives_same _ _ refl

pub returns-in-Opened-clause-gives : goal.returns-in-Opened-clause-gives
returns-in-Opened-clause-gives g c = gives_same _ _ refl

pub returns-in-Lacks-clause-gives : goal.returns-in-Lacks-clause-gives
returns-in-Lacks-clause-gives g c = gives_same _ _ refl

pub returns-in_err-message-clause-took : goal.returns-in_err-message-clause-took
returns-in_err-message-clause-took g c = on-same c.args.lane.now c.opening_step.new.lane c.in_err-message.ensures.stays.journal (λ n. ap (λ (w : LaneState). node_in w.nodes.items n) c.in_err-message.ensures.after)

pub returns-in_err-short-in-Asks-clause-took : goal.returns-in_err-short-in-Asks-clause-took
returns-in_err-short-in-Asks-clause-took g c = on-then c.args.lane.now c.opening_step.new.lane c.ask.new.lane
    (on-next c.args.lane.now c.opening_step.new.lane c.args.distributor _ c.in_ok-message.ensures.next (λ n. ap (λ (w : LaneState). node_in w.nodes.items n) c.in_ok-message.ensures.after)) c.in_err-short-in-Asks.ensures.took

pub returns-in_ok-short-in-Asks-clause-took : goal.returns-in_ok-short-in-Asks-clause-took
returns-in_ok-short-in-Asks-clause-took g c = on-then c.args.lane.now c.opening_step.new.lane c.ask.new.lane
    (on-next c.args.lane.now c.opening_step.new.lane c.args.distributor _ c.in_ok-message.ensures.next (λ n. ap (λ (w : LaneState). node_in w.nodes.items n) c.in_ok-message.ensures.after)) c.in_ok-short-in-Asks.ensures.took

pub returns-in-Opened-clause-took : goal.returns-in-Opened-clause-took
returns-in-Opened-clause-took g c = on-next c.args.lane.now c.opening_step.new.lane c.args.distributor _ c.in_ok-message.ensures.next (λ n. ap (λ (w : LaneState). node_in w.nodes.items n) c.in_ok-message.ensures.after)

pub returns-in-Lacks-clause-took : goal.returns-in-Lacks-clause-took
returns-in-Lacks-clause-took g c = on-next c.args.lane.now c.opening_step.new.lane c.args.distributor _ c.in_ok-message.ensures.next (λ n. ap (λ (w : LaneState). node_in w.nodes.items n) c.in_ok-message.ensures.after)

use Rattle.std.proofs.Common.{◌+◌, Some, length, ap, refl, subst, ◌∙◌, arith}
use Rattle.lane_states.specs.declared.lane_state.LaneState.{LaneState}
use Rattle.lane_states.specs.LaneStates.{journal_of, IsKeptWith}
use Rattle.lane_states.specs.Exchanging.{Nothing}
use Rattle.lane_states.proofs.Exchanging.{delivers-same, delivers-one, brought-more}
use Rattle.lane_states.proofs.TellingBack.{kept-somehow}
use Rattle.lane_states.proofs.Turns.{fewer-places, places-late}
use Rattle.lane_states.proofs.NodeSpans.{on-same, on-then}
use Rattle.lane_keeping.specs.LaneKeeping.{node_in}
use Rattle.lane_states.proofs.lane_state.LaneState.deal.Goals as goal

pub returns-in-LoseRequest-clause-took : goal.returns-in-LoseRequest-clause-took
returns-in-LoseRequest-clause-took c = on-same c.args.self.now c.args.self.now refl (λ n. refl)

pub returns-in-Twice-clause-took : goal.returns-in-Twice-clause-took
returns-in-Twice-clause-took c = on-then c.args.self.now c.bring_back-reply.new.self c.deliver-in-Twice.new.self c.bring_back-reply.ensures.took c.deliver-in-Twice.ensures.took

pub returns-in-Late-clause-took : goal.returns-in-Late-clause-took
returns-in-Late-clause-took c = on-same c.args.self.now c.keep_late.new.self (ap (λ (w : LaneState). journal_of w) c.keep_late.ensures.after) (λ n. ap (λ (w : LaneState). node_in w.nodes.items n) c.keep_late.ensures.after)

pub returns-in-LoseRequest-clause-brought : goal.returns-in-LoseRequest-clause-brought
returns-in-LoseRequest-clause-brought c = Nothing

pub returns-in-LoseReply-clause-brought : goal.returns-in-LoseReply-clause-brought
returns-in-LoseReply-clause-brought c = delivers-one _ _ _ _ c.deliver.ensures.grows

pub returns-in-Twice-clause-brought : goal.returns-in-Twice-clause-brought
returns-in-Twice-clause-brought c =
    let x = c.args.self.now in
    let b = c.bring_back-reply.new.self in
    let e = c.deliver-in-Twice.new.self in
    brought-more (journal_of x) x.nodes.items x.last c.args.message (Some c.bring_back-reply.result) (journal_of b) (journal_of e) (delivers-one _ _ _ _ c.deliver-in-Twice.ensures.grows) c.bring_back-reply.ensures.brought

pub returns-in-Late-clause-brought : goal.returns-in-Late-clause-brought
returns-in-Late-clause-brought c = delivers-same _ _ (ap (λ (w : LaneState). journal_of w) c.keep_late.ensures.after)

pub deliver-requires-clause-keeps : goal.deliver-requires-clause-keeps
deliver-requires-clause-keeps c = (c.args.self.now.parts.items, c.requires.keeps)

-- whoever asked is told the first reply
pub deliver-requires-in-Twice-clause-keeps : goal.deliver-requires-in-Twice-clause-keeps
deliver-requires-in-Twice-clause-keeps c = kept-somehow c.args.self.now c.bring_back-reply.new.self c.args.message (Some c.bring_back-reply.result) c.requires.asker c.bring_back-reply.ensures.keeps

pub returns-in-LoseReply-clause-keeps : goal.returns-in-LoseReply-clause-keeps
returns-in-LoseReply-clause-keeps c = c.deliver.ensures.keeps c.args.self.now.parts.items c.requires.keeps

pub returns-in-Twice-clause-keeps : goal.returns-in-Twice-clause-keeps
returns-in-Twice-clause-keeps c parts are = c.deliver-in-Twice.ensures.keeps parts (c.bring_back-reply.ensures.keeps parts are)

pub returns-in-Late-clause-keeps : goal.returns-in-Late-clause-keeps
returns-in-Late-clause-keeps c = subst (λ (z : LaneState). IsKeptWith z.parts.items c.keep_late.new.self) c.keep_late.ensures.after c.keep_late.ensures.keeps

-- ---- places for what is told

pub returns-in-Deliver-clause-places : goal.returns-in-Deliver-clause-places
returns-in-Deliver-clause-places c =
    let x = c.args.self.now in
    let b = c.bring_back.new.self in
    let n = length x.late.late in
    fewer-places (length b.late.late) (length b.late.late + 0) b (omega arith)
    (places-late x b 0 (ap (λ (z : LaneState). z.late.late) c.bring_back.ensures.after) (c.bring_back.ensures.places (n + 0) (fewer-places (n + 0 + 1) (n + 2) x (omega arith) c.requires.places)))

pub returns-in-LoseReply-clause-places : goal.returns-in-LoseReply-clause-places
returns-in-LoseReply-clause-places c =
    let x = c.args.self.now in
    let e = c.deliver.new.self in
    let n = length x.late.late in
    fewer-places (length e.late.late) (length e.late.late + 0) e (omega arith)
    (places-late x e 0 (ap (λ (z : LaneState). z.late.late) c.deliver.ensures.after) (c.deliver.ensures.places (n + 0) (fewer-places (n + 0 + 1) (n + 2) x (omega arith) c.requires.places)))

pub deliver-requires-in-Twice-clause-places : goal.deliver-requires-in-Twice-clause-places
deliver-requires-in-Twice-clause-places c = c.bring_back-reply.ensures.places 1 (fewer-places 2 (length c.args.self.now.late.late + 2) c.args.self.now (omega arith) c.requires.places)

pub returns-in-Twice-clause-places : goal.returns-in-Twice-clause-places
returns-in-Twice-clause-places c =
    let x = c.args.self.now in
    let e = c.deliver-in-Twice.new.self in
    let n = length x.late.late in
    fewer-places (length e.late.late) (length e.late.late + 0) e (omega arith)
    (places-late x e 0 (ap (λ (z : LaneState). z.late.late) c.deliver-in-Twice.ensures.after ∙ ap (λ (z : LaneState). z.late.late) c.bring_back-reply.ensures.after)
    (c.deliver-in-Twice.ensures.places (n + 0) (c.bring_back-reply.ensures.places (n + 0 + 1) (fewer-places (n + 0 + 1 + 1) (n + 2) x (omega arith) c.requires.places))))

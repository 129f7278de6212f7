use Rattle.std.proofs.Common.{◌+◌, length, ap}
use Rattle.lane_carriage.specs.Waits.{numbers}
use Rattle.lane_states.specs.declared.lane_state.LaneState.{LaneState}
use Rattle.lane_states.proofs.Exchanging.{brought-sent}
use Rattle.lane_states.proofs.Going.{IsSentIn, went-by, went-carried}
use Rattle.lane_states.proofs.TellingBack.{asker-sent, kept-somehow, back-after}
use Rattle.lane_states.proofs.Turns.{places-late}
use Rattle.lane_states.proofs.NodeSpans.{on-event, on-then}
use Rattle.lane_keeping.specs.Replaying.{sending}
use Rattle.lane_keeping.specs.LaneKeeping.{node_in}
use Rattle.lane_states.proofs.lane_state.LaneState.send_within.Goals as goal

pub returns-clause-went : goal.returns-clause-went
returns-clause-went g c =
    let x = c.args.self.now in
    let b = c.send_message.new.self in
    let d = c.deal-reply.new.self in
    let e = c.deliver_due.new.self in
    let sent : IsSentIn x b c.args.message = record { last = ap (λ (z : LaneState). z.last) c.send_message.ensures.after; journal = c.send_message.ensures.grows; late = ap (λ (z : LaneState). z.late.late) c.send_message.ensures.after } in
    went-by c.fate-fate.result c.met-met.result x b d e c.args.message _ _ c.fate-fate.ensures.given sent c.met-met.ensures.fate c.deal-reply.ensures.dealt c.deal-reply.ensures.late
    (ap (λ (z : LaneState). z.last) c.deal-reply.ensures.after) c.deliver_due.ensures.due c.deliver_due.ensures.none_left (ap (λ (z : LaneState). z.last) c.deliver_due.ensures.after)

pub returns-clause-carried : goal.returns-clause-carried
returns-clause-carried g c = went-carried c.late_messages_wait.ensures.waiting c.late_messages_wait.ensures.taken c.args.self.now c.deliver_due.new.self c.args.message _ _ (returns-clause-went g c) c.requires.carried

pub returns-clause-brought : goal.returns-clause-brought
returns-clause-brought g c =
    let x = c.args.self.now in
    let b = c.send_message.new.self in
    let sent : IsSentIn x b c.args.message = record { last = ap (λ (z : LaneState). z.last) c.send_message.ensures.after; journal = c.send_message.ensures.grows; late = ap (λ (z : LaneState). z.late.late) c.send_message.ensures.after } in
    brought-sent x b c.deal-reply.new.self c.deliver_due.new.self c.args.message c.deal-reply.result (numbers c.deliver_due.ensures.due.taken) sent (ap (λ (z : LaneState). z.nodes.items) c.send_message.ensures.after)
    c.deliver_due.ensures.due.delivered c.deal-reply.ensures.brought

pub returns-clause-took : goal.returns-clause-took
returns-clause-took g c =
    let x = c.args.self.now in
    let b = c.send_message.new.self in
    let d = c.deal-reply.new.self in
    let e = c.deliver_due.new.self in
    on-then x d e (on-then x b d (on-event x b (sending (x.last + 1) c.args.message) tt c.send_message.ensures.grows (λ n. ap (λ (w : LaneState). node_in w.nodes.items n) c.send_message.ensures.after)) c.deal-reply.ensures.took)
    c.deliver_due.ensures.took

pub deliver_due-requires-clause-keeps : goal.deliver_due-requires-clause-keeps
deliver_due-requires-clause-keeps g c =
    kept-somehow c.send_message.new.self c.deal-reply.new.self c.args.message c.deal-reply.result (asker-sent c.args.self.now c.send_message.new.self c.args.message c.send_message.ensures.after c.requires.may.asker) c.deal-reply.ensures.keeps

pub deal-reply-requires-clause-asker : goal.deal-reply-requires-clause-asker
deal-reply-requires-clause-asker g c = asker-sent c.args.self.now c.send_message.new.self c.args.message c.send_message.ensures.after c.requires.may.asker

pub returns-clause-keeps : goal.returns-clause-keeps
returns-clause-keeps g c =
    back-after c.args.self.now c.send_message.new.self c.deal-reply.new.self c.deliver_due.new.self c.args.message c.deal-reply.result c.send_message.ensures.after c.deliver_due.ensures.keeps c.deal-reply.ensures.keeps

pub deal-reply-requires-clause-places : goal.deal-reply-requires-clause-places
deal-reply-requires-clause-places g c =
    let x = c.args.self.now in
    places-late x c.send_message.new.self 2 (ap (λ (z : LaneState). z.late.late) c.send_message.ensures.after) (c.send_message.ensures.places (length x.late.late + 2) c.requires.places)

use Rattle.std.proofs.Common.{refl}
use Rattle.lane_states.specs.LaneStates.{journal_of}
use Rattle.lane_states.proofs.Exchanging.{may-after, went-after, brought-after}
use Rattle.lane_states.proofs.TellingBack.{back-as}
use Rattle.lane_states.proofs.NodeSpans.{on-same, on-then}
use Rattle.lane_states.proofs.lane_state.LaneState.exchange.Goals as goal

pub returns-in_err-body-clause-took : goal.returns-in_err-body-clause-took
returns-in_err-body-clause-took g c = on-same c.args.self.now c.args.self.now refl (λ n. refl)

pub returns-in_err-room_for_message-clause-took : goal.returns-in_err-room_for_message-clause-took
returns-in_err-room_for_message-clause-took g c = on-same c.args.self.now c.room_for_message.new.self (rw c.in_err-room_for_message.ensures.same refl) c.in_err-room_for_message.ensures.nodes

pub send_within-requires-clause-may : goal.send_within-requires-clause-may
send_within-requires-clause-may g c = may-after c.args.self.now c.room_for_message.new.self c.args.message c.in_ok-room_for_message.ensures.after (rw c.in_ok-room_for_message.ensures.same refl) c.requires.may

pub returns-clause-took : goal.returns-clause-took
returns-clause-took g c =
    on-then c.args.self.now c.room_for_message.new.self c.send_within.new.self (on-same c.args.self.now c.room_for_message.new.self (rw c.in_ok-room_for_message.ensures.same refl) c.in_ok-room_for_message.ensures.nodes)
    c.send_within.ensures.took

pub returns-clause-exchanged : goal.returns-clause-exchanged
returns-clause-exchanged g c =
    let x = c.args.self.now in
    let a = c.room_for_message.new.self in
    let e = c.send_within.new.self in
    let m = c.args.message in
    record {
      went = went-after x a m c.in_ok-room_for_message.ensures.after (rw c.in_ok-room_for_message.ensures.same refl) e _ _ c.in_ok-room_for_message.ensures.late c.send_within.ensures.went;
      sent = c.events_are_kept.ensures.sent _ _ _ _ _ _ _ c.requires.keeps.keeps m c.requires.may.legal c.requires.may.brings c.requires.may.whole;
      brought = brought-after x a m c.in_ok-room_for_message.ensures.after (rw c.in_ok-room_for_message.ensures.same refl) c.send_within.result (journal_of e) c.in_ok-room_for_message.ensures.nodes c.send_within.ensures.brought;
    }

pub returns-clause-keeps : goal.returns-clause-keeps
returns-clause-keeps g c = back-as c.args.self.now c.room_for_message.new.self c.send_within.new.self c.args.message c.send_within.result c.in_ok-room_for_message.ensures.after c.send_within.ensures.keeps

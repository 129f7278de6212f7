use Rattle.std.proofs.Common.{◌≡◌, ◌<◌, ◌∷◌, length, slice_set, get_or, refl, ap, ap₂, ◌∙◌, subst, arith, rules}
use Rattle.std.specs.Vec.{with_item}
use Rattle.messages.specs.declared.decision.Decision.TheVariants.{DeleteOver}
use Rattle.distributor_part.specs.Upkeep.{EndsDelete}
use Rattle.lane_journals.specs.Meanings.{history}
use Rattle.lane_journals.specs.KeptJournals.{past}
use Rattle.lane_journals.specs.declared.event.LaneEvent.TheVariants.{Decided}
use Rattle.lane_keeping.specs.Laws.{IsKeptNext}
use Rattle.lane_states.specs.declared.lane_state.LaneState.{LaneState}
use Rattle.lane_states.specs.LaneStates.{journal_of, HasRoom}
use Rattle.lane_upkeep.proofs.Decisions.{Writes, writes-accepted, writes-after, writes-len, writes-others, writes-now, deciding, opened-then, resting-then, decided-on, decided-known, decided-passes, roomy-on, roomy-passes, delete-ends}
use Rattle.lane_upkeep.proofs.Accepted.{accepted_deleted}
use Rattle.lane_upkeep.proofs.deciding.delete_over.Goals as goal

pub returns-in_err-room_for_decision-clause-passing : goal.returns-in_err-room_for_decision-clause-passing
returns-in_err-room_for_decision-clause-passing c given h =
    roomy-passes c.args.lane.now c.room_for_decision.new.lane c.args.owner.now c.room_for_decision.ensures.same c.room_for_decision.ensures.after c.room_for_decision.ensures.told given c.room_for_decision.ensures.spare h

pub returns-in_err-room_for_decision-clause-on : goal.returns-in_err-room_for_decision-clause-on
returns-in_err-room_for_decision-clause-on c = roomy-on c.args.lane.now c.room_for_decision.new.lane c.args.owner.now c.room_for_decision.ensures.same c.room_for_decision.ensures.after

-- the lane then
abbrev then_is : goal.After-push_within → LaneState
then_is c = record c.room_for_decision.new.lane { journal = record c.room_for_decision.new.lane.journal { events = c.push_within.new.events }; parts = with_item c.room_for_decision.new.lane.parts c.from.result c.delete_over.new.self }

writes : (c : goal.After-push_within) → Writes c.args.lane.now c.room_for_decision.new.lane (then_is c) c.args.owner.now c.index_mut.result.now c.delete_over.new.self
writes c =
    let r = c.room_for_decision.new.lane in
    record {
      same = c.room_for_decision.ensures.same;
      told = c.room_for_decision.ensures.told;
      roomy = c.room_for_decision.ensures.after;
      here = subst (λ n. n < length r.parts.items) c.from.ensures (search rules);
      read = subst (λ n. c.index_mut.result.now ≡ get_or r.parts.items n c.index_mut.result.now) c.from.ensures c.index_mut.ensures.value;
      rest = refl;
      items = ap (λ n. slice_set r.parts.items n c.delete_over.new.self) c.from.ensures;
      len = refl;
    }

grows : (c : goal.After-push_within) → journal_of (then_is c) ≡ Decided c.args.owner.now.distributor c.args.owner.now.state.version (DeleteOver c.args.bucket c.args.node) ∷ journal_of c.args.lane.now
grows c = c.push_within.ensures.past ∙ ap₂ (λ e xs. e ∷ past xs) c.decided.ensures c.room_for_decision.ensures.same

room : (c : goal.After-push_within) → HasRoom 0 (then_is c)
room c =
    let len = c.push_within.ensures.len in
    let most = c.push_within.ensures.capacity in
    let some = c.in_ok-room_for_decision.ensures.room in
    omega arith

next : (c : goal.After-push_within) → let a = c.args.lane.now in
    IsKeptNext a.lane a.rules (journal_of a) a.newest a.last a.nodes.items (then_is c).parts.items (Decided c.args.owner.now.distributor c.args.owner.now.state.version (DeleteOver c.args.bucket c.args.node))
next c =
    let a = c.args.lane.now in
    let o = c.args.owner.now in
    let h = c.requires.passing.1 in
    let over = c.requires.over in
    let x = writes-now (writes c) (λ y z. EndsDelete y z c.args.bucket c.args.node) c.delete_over.ensures in
    delete-ends a (then_is c).parts.items o c.args.bucket c.args.node (c.deletes_end.ensures a.lane a.rules (journal_of a) a.newest a.last a.nodes.items a.parts.items h.keeps.keeps (then_is c).parts.items o.distributor o.state
    (deciding (writes c) c.requires.passing.0 h)) x over

pub returns-clause-passing : goal.returns-clause-passing
returns-clause-passing c given h =
    let w = writes c in
    decided-passes c.args.lane.now (then_is c) c.args.owner.now (writes-after w) (writes-len w) (DeleteOver c.args.bucket c.args.node) tt (grows c) (writes-others w) w.told
    c.upkeep_leaves_lines.ensures.idle given (room c) (next c)
    (writes-accepted w (accepted_deleted (history (journal_of c.args.lane.now)) c.index_mut.result.now c.delete_over.new.self c.args.bucket c.args.node c.delete_over.ensures) h.keeps)
    _ (opened-then w _ c.delete_over.ensures.after c.args.owner.now.state h.rows h.opened) (resting-then w _ c.delete_over.ensures.after h.resting) h

pub returns-clause-on : goal.returns-clause-on
returns-clause-on c = let w = writes c in
    decided-on c.args.lane.now (then_is c) c.args.owner.now (writes-after w) (writes-len w) (DeleteOver c.args.bucket c.args.node) tt (grows c) (writes-others w)

pub returns-clause-known : goal.returns-clause-known
returns-clause-known c = let w = writes c in
    decided-known c.args.lane.now (then_is c) c.args.owner.now (writes-after w) (writes-len w) (DeleteOver c.args.bucket c.args.node) tt (grows c) (writes-others w)

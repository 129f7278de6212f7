use Rattle.std.proofs.Common.{rules}
use Rattle.lane_states.proofs.Kept.{kept_still, kept-roomier, keeps-nodes}
use Rattle.lane_states.proofs.lane_state.LaneState.room_for_message.Goals as goal

pub returns-clause-keeps : goal.returns-clause-keeps
returns-clause-keeps c =
    let x = c.args.self.now in
    rw (c.in_ok-room.ensures.same, c.in_ok-reserve.ensures.items)
    (kept-roomier (kept_still c.requires.keeps (search rules) (keeps-nodes c.requires.keeps.keeps c.make_nodes.new.nodes.items c.make_nodes.ensures.same) c.requires.keeps.accepted) c.in_ok-reserve-2.ensures.items c.in_ok-reserve-2.ensures.len c.in_ok-reserve-2.ensures.capacity)

use Rattle.std.proofs.Common.{◌≡◌, ◌≤◌, ◌+◌, length, vec_len, vec_capacity}
use Rattle.lane_states.specs.LaneStates.{journal_of, HasPlaces, StaysKept, NodesOn}
use Rattle.lane_carriage.specs.Carrying.{DeliversSome}
use Rattle.lane_states.proofs.lane_state.LaneState.deliver_due.Given as goal

-- some of those that are due are given out, and there is room for all that are left
abbrev pub invariant-loop : goal.invariant-loop
invariant-loop l = record {
  keeps : StaysKept l.fn.self l.self;
  took : NodesOn l.fn.self l.self;
  due : DeliversSome l.fn.self.last l.fn.self.late.late l.self.late.late (journal_of l.fn.self) (journal_of l.self);
  after : l.self ≡ record l.fn.self { journal = l.self.journal; nodes = l.self.nodes; late = l.self.late };
  nodes : vec_len l.self.nodes ≡ vec_len l.fn.self.nodes;
  len : vec_len l.self.journal.events + length l.self.late.late ≤ vec_len l.fn.self.journal.events + length l.fn.self.late.late;
  capacity : vec_capacity l.fn.self.journal.events ≤ vec_capacity l.self.journal.events;
  places : HasPlaces (length l.self.late.late) l.self;
}

abbrev pub decreases-loop : goal.decreases-loop
decreases-loop l = length l.self.late.late

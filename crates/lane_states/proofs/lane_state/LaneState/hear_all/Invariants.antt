use Rattle.std.proofs.Common.{◌≡◌, ◌≤◌, ◌+◌, vec_len, vec_capacity}
use Rattle.lane_states.specs.LaneStates.{journal_of, IsKept, AreResting}
use Rattle.lane_keeping.specs.Tidings.{heard_below}
use Rattle.lane_states.proofs.lane_state.LaneState.hear_all.Given as goal

-- the distributors below heard the state, but the deaf ones
abbrev pub invariant-loop-distributor : goal.invariant-loop-distributor
invariant-loop-distributor l = record {
  keeps : IsKept l.self;
  grows : journal_of l.self ≡ heard_below l.distributor l.deaf l.state (journal_of l.fn.self);
  after : l.self ≡ record l.fn.self { journal = l.self.journal; parts = l.self.parts };
  parts : vec_len l.self.parts ≡ vec_len l.fn.self.parts;
  len : vec_len l.self.journal.events ≤ vec_len l.fn.self.journal.events + l.distributor;
  capacity : vec_capacity l.fn.self.journal.events ≤ vec_capacity l.self.journal.events;
  resting : AreResting l.fn.self → AreResting l.self;
}

use Rattle.std.proofs.Common.{◌≡◌, ◌≤◌, ◌-◌, ◌+◌, ℕ, length}
use Rattle.lane_keeping.specs.LaneKeeping.{part_in}
use Rattle.lane_states.proofs.parts.make_parts.Given as goal

-- the parts so far are what they were, as far as they are there
abbrev pub invariant-loop-alloc : goal.invariant-loop-alloc
invariant-loop-alloc l = record {
  same : (d : ℕ) → part_in l.lane l.rules l.parts.items d ≡ part_in l.lane l.rules l.fn.parts.items d;
  more : length l.fn.parts.items ≤ length l.parts.items;
}

abbrev pub decreases-loop-alloc : goal.decreases-loop-alloc
decreases-loop-alloc l = l.distributor + 1 - length l.parts.items

use Rattle.std.proofs.Common.{◌≡◌, ◌≤◌, ◌-◌, ◌+◌, ℕ, length}
use Rattle.lane_keeping.specs.LaneKeeping.{node_in}
use Rattle.lane_states.proofs.parts.make_nodes.Given as goal

-- the nodes so far are what they were, as far as they are there
abbrev pub invariant-loop-alloc : goal.invariant-loop-alloc
invariant-loop-alloc l = record {
  same : (n : ℕ) → node_in l.nodes.items n ≡ node_in l.fn.nodes.items n;
  more : length l.fn.nodes.items ≤ length l.nodes.items;
}

abbrev pub decreases-loop-alloc : goal.decreases-loop-alloc
decreases-loop-alloc l = l.node + 1 - length l.nodes.items

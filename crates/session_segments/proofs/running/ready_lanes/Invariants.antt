use Rattle.std.proofs.Common.{◌≡◌, ◌≤◌, ◌+◌, ◌++◌, length, map, reverse, vec_len, vec_capacity}
use Rattle.std.specs.Vec.Iter.{into_iter_items}
use Rattle.lane_locks.specs.declared.lanes.ReadyLane.{ReadyLane}
use Rattle.session_segments.proofs.running.ready_lanes.Given as goal

-- the lanes so far stand in their order with their lists, the others are still to come, and there is room for them
abbrev pub invariant-loop-lane : goal.invariant-loop-lane
invariant-loop-lane g l =
    (goal.iterator-loop-lane g).can_next l.lane-iterator
    × (goal.iterator-loop-lane g).is_finite l.lane-iterator
    × (map (λ (r : ReadyLane _ _ _ _). r.lane) l.ready.items ++ into_iter_items l.lane-iterator ≡ l.fn.lanes.items)
    × (map (λ (r : ReadyLane _ _ _ _). r.list) l.ready.items ++ reverse l.lists.items ≡ l.fn.lists.items)
    × (length l.lists.items ≡ length (into_iter_items l.lane-iterator))
    × (vec_len l.ready + length (into_iter_items l.lane-iterator) ≤ vec_capacity l.ready)

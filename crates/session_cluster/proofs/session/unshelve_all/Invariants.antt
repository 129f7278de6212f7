use Rattle.std.proofs.Common.{◌≡◌, ◌≤◌, ◌+◌, ◌++◌, length, vec_len, vec_capacity}
use Rattle.std.specs.Vec.Iter.{into_iter_items}
use Rattle.session_cluster.specs.Cells.{lanes_in}
use Rattle.session_cluster.proofs.session.unshelve_all.Given as goal

-- the lanes so far stand in their order, the others are still to come, and there is room for them
abbrev pub invariant-loop-lane : goal.invariant-loop-lane
invariant-loop-lane g l =
    (goal.iterator-loop-lane g).can_next l.lane-iterator
    × (goal.iterator-loop-lane g).is_finite l.lane-iterator
    × (lanes_in l.room.items ++ lanes_in (into_iter_items l.lane-iterator) ≡ lanes_in l.fn.lanes.items)
    × (vec_len l.room + length (into_iter_items l.lane-iterator) ≤ vec_capacity l.room)

use Rattle.std.proofs.Common.{◌≡◌, ◌≤◌, ◌+◌, ◌++◌, length, map, vec_len, vec_capacity}
use Rattle.std.specs.Vec.Iter.{into_iter_items}
use Rattle.lane_locks.specs.declared.lanes.ReadyLane.{ReadyLane}
use Rattle.session_segments.proofs.running.take_back.Given as goal

-- those so far are taken, the others are still to come, and there is room for them
abbrev pub invariant-loop-one : goal.invariant-loop-one
invariant-loop-one g l =
    (goal.iterator-loop-one g).can_next l.one-iterator
    × (goal.iterator-loop-one g).is_finite l.one-iterator
    × (l.lanes.items ++ map (λ (r : ReadyLane _ _ _ _). r.lane) (into_iter_items l.one-iterator) ≡ map (λ (r : ReadyLane _ _ _ _). r.lane) l.fn.ready.items)
    × (vec_len l.lanes + length (into_iter_items l.one-iterator) ≤ vec_capacity l.lanes)

use Rattle.std.proofs.Common.{◌≡◌, ◌≤◌, ◌+◌, ◌++◌, length, map, vec_len, vec_capacity}
use Rattle.std.specs.Vec.Iter.{into_iter_items}
use Rattle.lane_locks.specs.declared.lanes.FedLane.{FedLane}
use Rattle.session_segments.proofs.running.take_apart.Given as goal

-- those so far are taken apart, the others are still to come, and there is room for them
abbrev pub invariant-loop-one : goal.invariant-loop-one
invariant-loop-one g l =
    (goal.iterator-loop-one g).can_next l.one-iterator
    × (goal.iterator-loop-one g).is_finite l.one-iterator
    × (l.lanes.items ++ map (λ (f : FedLane _ _ _ _). f.lane) (into_iter_items l.one-iterator) ≡ map (λ (f : FedLane _ _ _ _). f.lane) l.fn.fed.items)
    × (l.stages.items ++ map (λ (f : FedLane _ _ _ _). f.stages.items) (into_iter_items l.one-iterator) ≡ map (λ (f : FedLane _ _ _ _). f.stages.items) l.fn.fed.items)
    × (vec_len l.lanes + length (into_iter_items l.one-iterator) ≤ vec_capacity l.lanes)
    × (vec_len l.stages + length (into_iter_items l.one-iterator) ≤ vec_capacity l.stages)

use Rattle.std.proofs.Common.{◌≡◌, ◌+◌, ◌≤◌, map, length, vec_capacity}
use Rattle.lane_locks.specs.declared.lanes.FedLane.{FedLane}
use Rattle.lane_locks.specs.Powers.{powers}
use Rattle.lane_locks.specs.Lanes.{EachAt, IsFed}
use Rattle.lane_locks.proofs.locks.take_all.Given as goal

abbrev pub invariant-loop-lock : goal.invariant-loop-lock
invariant-loop-lock g l =
    (length l.taken.items + length l.locks.items ≡ length l.fn.locks.items)
    × (l.marks.parts ≡ length l.taken.items)
    × (l.marks.amount ≡ powers (map (λ (f : FedLane _ _ _ _). f.number) l.taken.items))
    × EachAt (λ _ (f : FedLane _ _ _ _). IsFed g.H.Shelf.name g.S.Segment.feeders g.S.Segment.began g.S.Segment.lines g.S.Segment.shelf f.number f.lane f.lines.items f.stages.items) l.taken.items
    × (length l.fn.locks.items ≤ vec_capacity l.taken)

abbrev pub decreases-loop-lock : goal.decreases-loop-lock
decreases-loop-lock g l = goal.left-loop-lock g l

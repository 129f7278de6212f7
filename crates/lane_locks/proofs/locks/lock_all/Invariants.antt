use Rattle.std.proofs.Common.{◌≡◌, ◌+◌, ◌^◌, ◌≤◌, length, vec_capacity}
use Rattle.lane_locks.specs.declared.lanes.ReadyLane.{ReadyLane}
use Rattle.lane_locks.specs.Lanes.{EachAt, IsReady}
use Rattle.lane_locks.proofs.locks.lock_all.Given as goal

abbrev pub invariant-loop-ready : goal.invariant-loop-ready
invariant-loop-ready g l =
    EachAt (λ k (r : ReadyLane _ _ _ _). IsReady g.H.Shelf.name g.S.Segment.feeders g.S.Segment.began g.S.Segment.lines g.S.Segment.shelf k r.lane r.list) l.lanes.items
    × (l.rest.parts ≡ length l.lanes.items) × (l.rest.amount ≡ 0)
    × (l.book.total + 2 ^ length l.lanes.items ≡ 2 ^ length l.fn.lanes.items)
    × (length l.locks.items + length l.lanes.items ≡ length l.fn.lanes.items)
    × (length l.fn.lanes.items ≤ vec_capacity l.locks)
    × EachAt (λ p n. n + p + 1 ≡ length l.fn.lanes.items) l.locks.items

abbrev pub decreases-loop-ready : goal.decreases-loop-ready
decreases-loop-ready g l = goal.left-loop-ready g l

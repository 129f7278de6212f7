use Rattle.std.proofs.Common.{◌≡◌, ◌+◌, ◌<◌, ◌≤◌, ℕ, map, length, vec_capacity}
use Rattle.lane_locks.specs.declared.lanes.FedLane.{FedLane}
use Rattle.lane_locks.specs.Powers.{Stands}
use Rattle.lane_locks.specs.Lanes.{EachAt, IsFed}
use Rattle.lane_locks.proofs.locks.in_order.Given as goal

abbrev pub invariant-loop-number : goal.invariant-loop-number
invariant-loop-number g l =
    (length l.taken.items + l.number ≡ length l.fn.taken.items)
    × (length l.lanes.items ≡ l.number)
    × EachAt (λ _ (f : FedLane _ _ _ _). IsFed g.H.Shelf.name g.S.Segment.feeders g.S.Segment.began g.S.Segment.lines g.S.Segment.shelf f.number f.lane f.lines.items f.stages.items) l.taken.items
    × ((k : ℕ) → l.number ≤ k → k < length l.fn.taken.items → Stands k (map (λ (f : FedLane _ _ _ _). f.number) l.taken.items))
    × EachAt (λ k (f : FedLane _ _ _ _). f.number ≡ k) l.lanes.items
    × EachAt (λ _ (f : FedLane _ _ _ _). IsFed g.H.Shelf.name g.S.Segment.feeders g.S.Segment.began g.S.Segment.lines g.S.Segment.shelf f.number f.lane f.lines.items f.stages.items) l.lanes.items
    × (length l.fn.taken.items ≤ vec_capacity l.lanes)
    × (l.count ≡ length l.fn.taken.items)

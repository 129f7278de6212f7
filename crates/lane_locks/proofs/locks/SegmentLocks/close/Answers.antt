use Rattle.std.proofs.Common.{◌+◌, ◌^◌, ℕ, map, length, refl, sym, ap, ◌∙◌, arith}
use Rattle.std.proofs.lemmas.List.{length-map}
use Rattle.lane_locks.specs.declared.lanes.FedLane.{FedLane}
use Rattle.lane_locks.proofs.Powers.{stands-once}
use Rattle.lane_locks.proofs.locks.SegmentLocks.close.Goals as goal

pub in_order-requires-clause-stand : goal.in_order-requires-clause-stand
in_order-requires-clause-stand g c k less =
    let i = c.self.invariant in
    let t = c.take_all.ensures in
    let ns = map (λ (f : FedLane _ _ _ _). f.number) c.take_all.new.taken.items in
    let long = length-map c.take_all.new.taken.items (λ (f : FedLane _ _ _ _). f.number) in
    let whole = c.audit.ensures.whole (t.parts ∙ sym i.1) in
    let s = stands-once (length ns) ns refl (ap (λ (a : ℕ). a + 1) (sym t.amount ∙ whole) ∙ (i.2 ∙ ap (λ (n : ℕ). 2 ^ n) (sym (long ∙ t.count)))) k (omega (arith, less, long)) in
    (s.place, s.stands)

use Rattle.std.proofs.Common.{◌≡◌, ◌+◌, [], ◌∷◌, map, length, sym, ap, ◌∙◌, arith}
use Rattle.lane_core.proofs.Places.{push-length, map-push}
use Rattle.lane_locks.specs.declared.lanes.FedLane.{FedLane}
use Rattle.lane_locks.specs.Powers.{powers}
use Rattle.lane_locks.proofs.Powers.{powers-append}
use Rattle.lane_locks.proofs.Numbered.{each-none, each-longer}
use Rattle.lane_locks.proofs.locks.take_all.Goals as goal

pub loop-lock-init : goal.loop-lock-init
loop-lock-init g c = (
  omega (arith, ap length c.requires.room.0),
  c.requires.none.0 ∙ sym (ap length c.requires.room.0),
  c.requires.none.1 ∙ sym (ap (λ fs. powers (map (λ (f : FedLane _ _ _ _). f.number) fs)) c.requires.room.0),
  each-none _ _ c.requires.room.0,
  c.requires.room.1,
)

pub loop-lock-preserved : goal.loop-lock-preserved
loop-lock-preserved g c =
    let i = c.loop-lock.invariant in
    let p = c.finish-number in
    let fewer : length c.loop-lock.locks.items ≡ length c.pop.new.self.items + 1 = ap length c.in-Some.ensures.items ∙ push-length _ _ in
    let more : length c.push_reserved.new.self.items ≡ length c.loop-lock.taken.items + 1 = ap length c.push_reserved.ensures.items ∙ push-length _ _ in
    let numbers = ap (map (λ (f : FedLane _ _ _ _). f.number)) c.push_reserved.ensures.items ∙ map-push (λ (f : FedLane _ _ _ _). f.number) _ _ in
    let sum = ap powers numbers ∙ powers-append (map (λ (f : FedLane _ _ _ _). f.number) c.loop-lock.taken.items) (p.result.0 ∷ []) in (
      omega (arith, i.0, fewer, more),
      omega (arith, i.1, more, c.merge.ensures.parts, p.ensures.mark.1),
      omega (arith, i.2, sum, c.merge.ensures.amount, p.ensures.mark.2),
      each-longer _ _ _ _ c.push_reserved.ensures.items i.3 (record { shelf_is = p.ensures.shelf; kept = p.ensures.kept; over = p.ensures.over; idle = p.ensures.idle }),
      omega (arith, i.4, c.push_reserved.ensures.capacity),
    )

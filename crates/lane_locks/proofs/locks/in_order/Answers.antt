use Rattle.std.proofs.Common.{◌≡◌, ◌+◌, ℕ, map, length, Some, sym, ap, ◌∙◌, subst, slice_get, arith, le_refl}
use Rattle.lane_core.proofs.Places.{get-map-back, index-get, remove-length, push-length}
use Rattle.lane_locks.specs.declared.lanes.FedLane.{FedLane}
use Rattle.lane_locks.specs.Powers.{Stands}
use Rattle.lane_locks.specs.Lanes.{IsFed}
use Rattle.lane_locks.proofs.Numbered.{each-none, each-longer, each-less, stands-less}
use Rattle.lane_locks.proofs.locks.in_order.Goals as goal

pub loop-number-init : goal.loop-number-init
loop-number-init g c = (
  omega arith,
  ap length c.requires.room.0,
  c.requires.fed,
  (λ k above less. c.requires.stand k less),
  each-none _ _ c.requires.room.0,
  each-none _ _ c.requires.room.0,
  c.requires.room.1,
  c.len-count.ensures ∙ c.args.taken.ok.0,
)

pub find-place-requires : goal.find-place-requires
find-place-requires g c =
    let n = c.loop-number.number in
    let i = c.loop-number.invariant in
    subst (λ fs. Stands n (map (λ (f : FedLane _ _ _ _). f.number) fs)) (sym c.as_slice.ensures.value) (i.3 n (le_refl n) (omega (arith, i.7)))

pub loop-number-preserved : goal.loop-number-preserved
loop-number-preserved g c =
    let i = c.loop-number.invariant in
    let n = c.loop-number.number in
    let ts = c.loop-number.taken.items in
    let at = c.find-place.result in
    let x = c.remove-lane.result in
    let number : FedLane _ _ _ _ → ℕ = λ f. f.number in
    let fed : FedLane _ _ _ _ → Type 0 = λ f. IsFed g.H.Shelf.name g.S.Segment.feeders g.S.Segment.began g.S.Segment.lines g.S.Segment.shelf f.number f.lane f.lines.items f.stages.items in
    let found : slice_get (map number ts) at ≡ Some n = subst (λ fs. slice_get (map number fs) at ≡ Some n) c.as_slice.ensures.value c.find-place.ensures.number in
    let y = get-map-back number ts at n found in
    let is : x ≡ y.0 = index-get ts at y.0 x y.1 c.remove-lane.ensures.value in
    let fewer : length c.remove-lane.new.self.items + 1 ≡ length ts = ap (λ fs. length fs + 1) c.remove-lane.ensures.items ∙ remove-length ts at y.0 y.1 in
    let longer : length c.push_reserved.new.self.items ≡ length c.loop-number.lanes.items + 1 = ap length c.push_reserved.ensures.items ∙ push-length _ _ in (
      omega (arith, i.0, fewer),
      omega (arith, i.1, longer),
      each-less fed _ ts at c.remove-lane.ensures.items i.2,
      (λ k above less. stands-less number _ ts at n k c.remove-lane.ensures.items found (λ e. omega (arith, above, e)) (i.3 k (omega (arith, above)) less)),
      each-longer (λ k f. number f ≡ k) _ _ x c.push_reserved.ensures.items i.4 (ap number is ∙ (sym y.2 ∙ sym i.1)),
      each-longer (λ _ f. fed f) _ _ x c.push_reserved.ensures.items i.5 (subst fed (sym is) (i.2 at y.0 y.1)),
      omega (arith, i.6, c.push_reserved.ensures.capacity),
      i.7,
    )

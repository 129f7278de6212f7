use Rattle.std.proofs.Common.{rules, ◌≡◌, ◌+◌, ◌*◌, ◌^◌, ℕ, List, length, sym, ap, ◌∙◌, subst, arith, add-one}
use Rattle.std.proofs.Math.Nat.{pow-succ'}
use Rattle.lane_core.proofs.Places.{push-length}
use Rattle.lane_locks.specs.Lanes.{EachAt, IsReady}
use Rattle.lane_locks.proofs.Numbered.{each-none, each-shorter, each-last, each-longer, falling-reversed}
use Rattle.lane_locks.proofs.locks.lock_all.Goals as goal

pub loop-ready-init : goal.loop-ready-init
loop-ready-init g c = (
  c.requires.ready,
  c.open-book.ensures.parts ∙ (sym c.requires.parts.0 ∙ c.requires.parts.1),
  c.open-book.ensures.amount,
  omega (arith, c.open-book.ensures.total),
  omega (arith, ap length c.requires.room.0),
  c.requires.room.1,
  each-none _ _ c.requires.room.0,
)

pub lock_of-requires-clause-ready : goal.lock_of-requires-clause-ready
lock_of-requires-clause-ready g c =
    let r = c.in-Some.ready in
    let number : c.len-number.result ≡ length c.pop.new.self.items = c.len-number.ensures ∙ c.pop.new.self.ok.0 in
    subst (λ (k : ℕ). IsReady g.H.Shelf.name g.S.Segment.feeders g.S.Segment.began g.S.Segment.lines g.S.Segment.shelf k r.lane r.list) (sym number) (each-last _ _ _ r c.in-Some.ensures.items c.loop-ready.invariant.0)

pub loop-ready-preserved : goal.loop-ready-preserved
loop-ready-preserved g c =
    let i = c.loop-ready.invariant in
    let n = length c.pop.new.self.items in
    let longer : length c.loop-ready.lanes.items ≡ n + 1 = ap length c.in-Some.ensures.items ∙ push-length _ _ in
    let locks : length c.push_reserved.new.self.items ≡ length c.loop-ready.locks.items + 1 = ap length c.push_reserved.ensures.items ∙ push-length _ _ in
    let number : c.len-number.result ≡ n = c.len-number.ensures ∙ c.pop.new.self.ok.0 in
    let amount : c.mark_of.result ≡ 2 ^ n = c.mark_of.ensures ∙ ap (λ (k : ℕ). 2 ^ k) number in
    let double : 2 ^ length c.loop-ready.lanes.items ≡ 2 * 2 ^ n = ap (λ (k : ℕ). 2 ^ k) (longer ∙ add-one n) ∙ pow-succ' 2 n in (
      each-shorter _ _ _ _ c.in-Some.ensures.items i.0,
      omega (arith, i.1, longer, c.split_off-mark.ensures.parts_left),
      omega (arith, i.2, c.split_off-mark.ensures.amount_left),
      omega (arith, i.3, double, amount, c.add.ensures.total),
      omega (arith, i.4, longer, locks),
      omega (arith, i.5, c.push_reserved.ensures.capacity),
      each-longer _ _ _ _ c.push_reserved.ensures.items i.6 (omega (arith, i.4, longer, number, c.lock_of.ensures)),
    )

pub returns-clause-numbers : goal.returns-clause-numbers
returns-clause-numbers g c =
    let i = c.loop-ready.invariant in
    let none : length c.loop-ready.lanes.items ≡ 0 = search rules in
    subst (λ (ns : List ℕ). EachAt (λ place n. n ≡ place) ns) (sym c.reverse.ensures.items) (falling-reversed c.loop-ready.locks.items (λ place n at. omega (arith, i.6 place n at, i.4, none)))

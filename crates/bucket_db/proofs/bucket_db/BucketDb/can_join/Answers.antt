use Rattle.std.proofs.Common.{◌<◌, IsTrue, List, length, sym, subst, arith}
use Rattle.bucket_db.specs.Changes.{CanJoin}
use Rattle.bucket_db.specs.Rows.{Rows}
use Rattle.bucket_db.specs.declared.row.Row.{Row}
use Rattle.bucket_db.proofs.Inside.{low_below}
use Rattle.bucket_db.proofs.RowLaws.{may_be_joined, must_be_joined, sibling_once}
use Rattle.bucket_db.proofs.bucket_db.BucketDb.can_join.Goals as goal

pub place_of-place-requires-clause-key : goal.place_of-place-requires-clause-key
place_of-place-requires-clause-key c = omega (arith, low_below c.sibling-sibling.result c.low.ensures.valid, c.low.ensures.value)

pub place_of-place-requires-clause-one : goal.place_of-place-requires-clause-one
place_of-place-requires-clause-one c =
    let lt = subst (λ (d : Rows). c.args.at < length d.rows) (sym c.self.view_is) c.requires in
    let inside : c.self.inside.lane.bits < c.index-row.result.now.bucket.bits = omega (arith, c.bits.ensures.value, c.bits-2.ensures.value, c.if-bits.false) in
    sibling_once c.self.inside.lane c.self.inside.rows.items _ c.args.at c.index-row.result.now _ _ c.self.invariant c.deref.ensures.value
    lt c.index-row.ensures inside c.sibling-sibling.ensures.value c.low.ensures.value

pub returns : goal.returns
returns c =
    let d : Rows = record { lane = c.self.inside.lane; rows = c.self.inside.rows.items } in
    let lt = subst (λ (d : Rows). c.args.at < length d.rows) (sym c.self.view_is) c.requires in
    let inside : c.self.inside.lane.bits < c.index-row.result.now.bucket.bits = omega (arith, c.bits.ensures.value, c.bits-2.ensures.value, c.if-bits.false) in
    let within = subst (λ (xs : List Row). c.place_of-place.result < length xs) c.deref.ensures.value c.place_of-place.ensures.within in
    subst (λ (e : Rows). (IsTrue c.may_join.result → CanJoin e c.args.at) × (CanJoin e c.args.at → IsTrue c.may_join.result)) c.self.view_is (
      λ t. may_be_joined d c.args.at c.place_of-place.result c.index-row.result.now c.index.result.now c.sibling-sibling.result lt within
          c.index-row.ensures c.index.ensures c.sibling-sibling.ensures.value inside (c.may_join.ensures.0 t),
      λ can. c.may_join.ensures.1 (must_be_joined d _ c.args.at c.place_of-place.result c.low.result c.index-row.result.now c.index.result.now c.sibling-sibling.result
          c.self.invariant c.deref.ensures.value lt c.index-row.ensures c.index.ensures c.sibling-sibling.ensures.value c.low.ensures.value c.place_of-place.ensures.only can),
    )

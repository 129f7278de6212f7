use Rattle.std.proofs.Common.{◌≡◌, ◌<◌, ℕ, length, ap, sym, subst, List, Some, arith}
use Rattle.std.specs.Prelude.{slice_get, IfSome}
use Rattle.bucket_db.specs.Changes.{IsJoinable, with_joined, with_rows}
use Rattle.bucket_db.specs.Rows.{AreRows, Rows, buckets_of}
use Rattle.bucket_db.specs.declared.row.Row.{Row}
use Rattle.bucket_db.proofs.Inside.{low_below}
use Rattle.bucket_db.proofs.RowLaws.{Pair, are_halves, pair_at, pair_of, pair_more, pair_key, pair_once, pair_found, join_keeps}
use Rattle.bucket_db.proofs.bucket_db.BucketDb.join_rows.Goals as goal

-- the premises, of the struct's own rows
pair_in : (d e : Rows) (at : ℕ) → d ≡ e → at < length e.rows → IfSome (slice_get e.rows at) (λ row. (other : Row) × IsJoinable e.lane e.rows row other) → Pair d.lane d.rows at
pair_in d e at same lt h = pair_at d.lane d.rows at (subst (λ (x : Rows). at < length x.rows) (sym same) lt)
    (subst (λ (x : Rows). IfSome (slice_get x.rows at) (λ row. (other : Row) × IsJoinable x.lane x.rows row other)) (sym same) h)

pub place_of-other-requires-clause-key : goal.place_of-other-requires-clause-key
place_of-other-requires-clause-key c = omega (arith, low_below c.sibling-sibling.result c.low.ensures.valid, c.low.ensures.value)

pub place_of-other-requires-clause-one : goal.place_of-other-requires-clause-one
place_of-other-requires-clause-one c =
    let pair = pair_in _ c.args.self.now c.args.at c.self.view_is c.requires.place c.requires.joinable in
    pair_once c.self.inside.lane c.self.inside.rows.items _ c.args.at pair _ c.self.invariant c.deref.ensures.value
    (pair_key c.self.inside.lane c.self.inside.rows.items c.args.at pair c.index.result.now _ _ c.index.ensures c.sibling-sibling.ensures.value c.low.ensures.value)

pub join_at-requires-clause-halves : goal.join_at-requires-clause-halves
join_at-requires-clause-halves c =
    let rows = c.self.inside.rows.items in
    let lane = c.self.inside.lane in
    let pair = pair_in _ c.args.self.now c.args.at c.self.view_is c.requires.place c.requires.joinable in
    let key = pair_key lane rows c.args.at pair c.index.result.now _ _ c.index.ensures c.sibling-sibling.ensures.value c.low.ensures.value in
    let found = pair_found lane rows _ c.args.at pair _ c.place_of-other.result c.self.invariant c.deref.ensures.value key c.place_of-other.ensures.only in
    are_halves lane rows c.args.at c.place_of-other.result pair.row pair.other c.self.invariant pair.own found pair.joinable.sibling
    (pair_more lane rows c.args.at pair c.self.invariant.bucket)

pub invariant_of-self : goal.invariant_of-self
invariant_of-self c =
    let rows = c.self.inside.rows.items in
    let lane = c.self.inside.lane in
    let pair = pair_in _ c.args.self.now c.args.at c.self.view_is c.requires.place c.requires.joinable in
    let key = pair_key lane rows c.args.at pair c.index.result.now _ _ c.index.ensures c.sibling-sibling.ensures.value c.low.ensures.value in
    let found = pair_found lane rows _ c.args.at pair _ c.place_of-other.result c.self.invariant c.deref.ensures.value key c.place_of-other.ensures.only in
    let made = c.join_at.ensures pair.row pair.other pair.own found in
    subst (λ (xs : List Row). AreRows lane (buckets_of xs)) (sym made.2)
    (join_keeps lane rows c.args.at c.place_of-other.result pair.row pair.other made.0 c.self.invariant pair.own found pair.joinable.sibling
    (pair_more lane rows c.args.at pair c.self.invariant.bucket) made.1.bucket)

pub returns-clause-joins : goal.returns-clause-joins
returns-clause-joins c = λ row other own joinable.
    let rows = c.self.inside.rows.items in
    let lane = c.self.inside.lane in
    let own_here : slice_get rows c.args.at ≡ Some row = subst (λ (d : Rows). slice_get d.rows c.args.at ≡ Some row) (sym c.self.view_is) own in
    let may : IsJoinable lane rows row other = subst (λ (d : Rows). IsJoinable d.lane d.rows row other) (sym c.self.view_is) joinable in
    let pair : Pair lane rows c.args.at = pair_of lane rows c.args.at row other own_here may in
    let key = pair_key lane rows c.args.at pair c.index.result.now _ _ c.index.ensures c.sibling-sibling.ensures.value c.low.ensures.value in
    let found : slice_get rows c.place_of-other.result ≡ Some other =
    pair_found lane rows _ c.args.at pair _ c.place_of-other.result c.self.invariant c.deref.ensures.value key c.place_of-other.ensures.only in
    let made = c.join_at.ensures row other own_here found in (
      made.0,
      made.1,
      subst (λ (d : Rows). (let now : Rows = record { lane = lane; rows = c.join_at.new.rows.items } in now) ≡ with_rows d (with_joined made.0 d.rows)) c.self.view_is
          (ap (λ (xs : List Row). record { lane = lane; rows = xs }) made.2),
    )

use Rattle.std.proofs.Common.{◌<◌, List, length, slice_index_or, sym, subst}
use Rattle.std.proofs.lemmas.Option.{slice_get-get_or}
use Rattle.bucket_db.specs.Rows.{AreRows, buckets_of}
use Rattle.bucket_db.specs.declared.row.Row.{Row}
use Rattle.lane_rounds.proofs.RowKeys.{whole-rows, low-there}
use Rattle.lane_rounds.proofs.rounds.begin_at.Goals as goal

pub returns-clause-key : goal.returns-clause-key
returns-clause-key c =
    let p = c.args.part.now in
    let rows : List Row = c.rows.result.now in
    let whole : AreRows p.lane (buckets_of rows) = whole-rows p.lane p.rows rows c.rows.ensures.list c.requires.opened c.rows.ensures.whole in
    let here : c.args.at < length rows = subst (λ (xs : List Row). c.args.at < length xs) (sym c.rows.ensures.list) c.requires.place in
    low-there p.lane rows c.args.at (slice_index_or rows c.args.at c.index-rows-at.result) whole (slice_get-get_or rows c.args.at c.index-rows-at.result here)

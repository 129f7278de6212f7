use Rattle.std.proofs.Common.{◌∙◌, ap, sym, subst, List, refl}
use Rattle.std.specs.List.{remove}
use Rattle.bucket_ids.specs.Buckets.{parent_of}
use Rattle.bucket_db.specs.Changes.{IsJoined, with_row}
use Rattle.bucket_db.specs.Order.{RisesFrom}
use Rattle.bucket_db.specs.Rows.{buckets_of}
use Rattle.bucket_db.specs.declared.row.Row.{Row}
use Rattle.bucket_db.proofs.RowLists.{removed_rises, read_is}
use Rattle.bucket_db.proofs.RowLaws.{halves_go}
use Rattle.bucket_db.proofs.changes.join_at.Goals as goal

pub exchange-requires-clause-rising : goal.exchange-requires-clause-rising
exchange-requires-clause-rising c =
    subst (λ (xs : List Row). RisesFrom 0 (buckets_of xs)) (sym c.remove-last.ensures.items) (removed_rises c.args.rows.now.items _ c.requires.rising)

pub returns : goal.returns
returns c = λ row other own found.
    let rows = c.args.rows.now.items in
    let row_is = read_is rows rows c.args.at c.index.result.now row refl c.index.ensures own in
    let other_is = read_is rows rows c.args.sibling c.index-2.result.now other refl c.index-2.ensures found in
    let parent = c.joined-joined.ensures.bucket ∙ ap (λ (r : Row). parent_of r.bucket) row_is in
    let gone = halves_go rows c.args.at c.args.sibling row c.joined-joined.result.bucket c.requires.halves own c.requires.place c.requires.sibling parent
    c.in_order-least.result.0 c.in_order-least.result.1 c.in_order-least.ensures.rising c.in_order-least.ensures.falling in (
      c.joined-joined.result,
      subst (λ (r : Row). IsJoined r other c.joined-joined.result) row_is (subst (λ (o : Row). IsJoined c.index.result.now o c.joined-joined.result) other_is c.joined-joined.ensures),
      c.exchange.ensures.rows ∙ ap (λ (xs : List Row). with_row c.joined-joined.result (remove xs c.in_order-least.result.0)) c.remove-last.ensures.items ∙ ap (with_row c.joined-joined.result) (sym gone),
    )

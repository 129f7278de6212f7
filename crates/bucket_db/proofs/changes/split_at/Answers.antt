use Rattle.std.proofs.Common.{◌≡◌, ◌∙◌, ap, ap₂, sym, subst, List, refl, get_or}
use Rattle.std.specs.List.{remove}
use Rattle.std.specs.Prelude.{slice_get, Some}
use Rattle.std.proofs.lemmas.Option.{slice_get_read}
use Rattle.bucket_db.specs.Changes.{with_row}
use Rattle.bucket_db.specs.Order.{RisesFrom}
use Rattle.bucket_db.specs.Rows.{buckets_of}
use Rattle.bucket_db.specs.declared.row.Row.{Row}
use Rattle.bucket_db.proofs.RowLists.{exchanged_rises}
use Rattle.bucket_db.proofs.RowLaws.{split_is}
use Rattle.bucket_db.proofs.changes.split_at.Goals as goal

pub place-requires-clause-rising : goal.place-requires-clause-rising
place-requires-clause-rising c =
    let rises = subst (λ (xs : List Row). RisesFrom 0 (buckets_of xs)) (sym c.in_ok-reserve.ensures.items) c.requires.rising in
    subst (λ (xs : List Row). RisesFrom 0 (buckets_of xs)) (sym c.exchange.ensures.rows) (exchanged_rises _ c.reserve.new.self.items c.args.at rises)

pub returns-clause-ok : goal.returns-clause-ok
returns-clause-ok c =
    let same : c.reserve.new.self.items ≡ c.args.rows.now.items = c.in_ok-reserve.ensures.items in
    let found : slice_get c.args.rows.now.items c.args.at ≡ Some c.index-row.result.now =
    slice_get_read c.args.rows.now.items _ c.args.at c.index-row.result.now refl c.requires.place
    (subst (λ (xs : List Row). c.index-row.result.now ≡ get_or xs c.args.at c.index-row.result.now) same c.index-row.ensures) in
    c.place.ensures.rows
    ∙ ap₂ with_row (ap (λ b. record c.index-row.result.now { bucket = b }) c.children.ensures.second)
    (c.exchange.ensures.rows ∙ ap₂ with_row (ap (λ b. record c.index-row.result.now { bucket = b }) c.children.ensures.first) (ap (λ (xs : List Row). remove xs c.args.at) same))
    ∙ sym (split_is c.args.rows.now.items c.args.at c.index-row.result.now found)

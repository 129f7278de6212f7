use Rattle.std.proofs.Common.{◌∙◌}
use Rattle.bucket_db.proofs.RowLists.{exchange_found}
use Rattle.bucket_db.proofs.changes.exchange.Goals as goal

pub returns-clause-rows : goal.returns-clause-rows
returns-clause-rows c = c.replace.ensures.rows
    ∙ exchange_found c.args.row c.args.rows.now.items _ _ c.args.at _ _ c.deref.ensures.value c.number_of.ensures.value c.requires.place
    c.first_from-place.ensures.within c.first_from-place.ensures.before c.first_from-place.ensures.from c.place_without.ensures.behind c.place_without.ensures.before

use Rattle.std.proofs.Common.{◌∙◌}
use Rattle.bucket_db.proofs.RowLists.{insert_found}
use Rattle.bucket_db.proofs.changes.place.Goals as goal

pub returns-clause-rows : goal.returns-clause-rows
returns-clause-rows c = c.in-Ok.ensures.items
    ∙ insert_found c.args.row c.args.rows.now.items _ _ _ c.deref.ensures.value c.number_of.ensures.value c.first_from-at.ensures.within c.first_from-at.ensures.before c.first_from-at.ensures.from

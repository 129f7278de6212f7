use Rattle.std.proofs.Common.{insert, ap, ◌∙◌}
use Rattle.entry_rows.proofs.ChunkLists.{inserted, same_row}
use Rattle.proof_basics.proofs.Results.{err_then}
use Rattle.entry_rows.proofs.chunks.Chunks.insert_in.Goals as goal

pub returns-in_err-insert-clause-err : goal.returns-in_err-insert-clause-err
returns-in_err-insert-clause-err c = err_then _ (same_row (λ r. r.items) c.args.self.now.rows.items c.args.spot.row c.index_mut.result.now _ c.requires.row
    (c.in_err-insert.ensures.items ∙ ap (λ r. r.items) c.index_mut.ensures.value))

pub returns-clause-ok : goal.returns-clause-ok
returns-clause-ok c = inserted (λ r. r.items) c.args.self.now.rows.items c.args.spot.row c.index_mut.result.now _ c.requires.row c.args.spot.at c.args.slot
    (c.requires.at c.index_mut.result.now)
    (c.in_ok-insert.ensures.items ∙ ap (λ r. insert r.items c.args.spot.at c.args.slot) c.index_mut.ensures.value)

use Rattle.std.proofs.Common.{◌+◌, get_or, take, ap, ◌∙◌, arith}
use Rattle.std.proofs.lemmas.List.{get_or-take}
use Rattle.entry_rows.proofs.ChunkLists.{cut_last}
use Rattle.entry_rows.proofs.chunks.Chunks.cut_end.Goals as goal

pub returns : goal.returns
returns c =
    let rows = c.args.self.now.rows.items in
    let i = c.args.from.row in
    let e = c.index_mut.result.now in
    let row = c.index_mut.ensures.value ∙ ap (λ l. get_or l i e) c.truncate.ensures.items ∙ get_or-take (i + 1) rows i e (omega arith) in
    rw c.truncate.ensures.items (cut_last (λ r. r.items) rows i e c.truncate-2.new.self c.args.from.at c.requires.row (c.requires.within e) (c.truncate-2.ensures.items ∙ ap (λ r. take c.args.from.at r.items) row))

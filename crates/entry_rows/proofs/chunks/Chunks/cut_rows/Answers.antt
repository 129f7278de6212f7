use Rattle.std.proofs.Common.{take, drop, ap, ◌∙◌, arith}
use Rattle.std.proofs.lemmas.List.{get_or-set_other}
use Rattle.entry_rows.proofs.ChunkLists.{cut_two}
use Rattle.entry_rows.proofs.chunks.Chunks.cut_rows.Goals as goal

pub returns : goal.returns
returns c =
    let rows = c.args.self.now.rows.items in
    let i = c.args.from.row in
    let j = c.args.to.row in
    let d = c.index_mut.result.now in
    let e = c.index_mut-2.result.now in
    let row = c.index_mut-2.ensures.value ∙ get_or-set_other rows i j c.truncate.new.self e (λ same. omega (arith, same, c.requires.rising)) in
    rw (c.drop-drain.ensures.items ∙ c.drain.ensures.kept)
    (cut_two (λ r. r.items) rows i j d e c.truncate.new.self c.cut_out.new.row c.args.from.at c.args.to.at c.requires.rising c.requires.row (c.requires.from d) (c.requires.to e)
    (c.truncate.ensures.items ∙ ap (λ r. take c.args.from.at r.items) c.index_mut.ensures.value)
    (c.cut_out.ensures ∙ ap (λ r. drop c.args.to.at r.items) row))

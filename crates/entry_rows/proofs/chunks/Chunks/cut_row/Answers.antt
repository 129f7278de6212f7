use Rattle.std.proofs.Common.{◌++◌, take, drop, ap, ◌∙◌}
use Rattle.entry_rows.proofs.ChunkLists.{cut_one}
use Rattle.entry_rows.proofs.chunks.Chunks.cut_row.Goals as goal

pub returns : goal.returns
returns c =
    let e = c.index_mut.result.now in
    cut_one (λ r. r.items) c.args.self.now.rows.items c.args.row e c.cut_out.new.row c.args.from c.args.to c.requires.row c.requires.rising (c.requires.within e)
    (c.cut_out.ensures ∙ ap (λ r. take c.args.from r.items ++ drop c.args.to r.items) c.index_mut.ensures.value)

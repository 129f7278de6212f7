use Rattle.std.proofs.Common.{◌-◌, length, ap, ◌∙◌, arith}
use Rattle.entry_rows.proofs.ChunkLists.{behind_last}
use Rattle.entry_rows.proofs.chunks.Chunks.append.Goals as goal

pub returns-then-at-long-clause-ok : goal.returns-then-at-long-clause-ok
returns-then-at-long-clause-ok c =
    let e = c.index.result.now in
    rw (behind_last (λ r. r.items) c.args.self.now.rows.items (c.len-rows.result - 1) e c.len-at.result c.args.slot
    (omega (arith, c.len-rows.ensures, c.args.self.now.rows.ok.0, c.if-rows-gt0.true))
    (c.len-at.ensures ∙ e.ok.0 ∙ ap (λ r. length r.items) c.index.ensures)) at c.insert_in.ensures.ok

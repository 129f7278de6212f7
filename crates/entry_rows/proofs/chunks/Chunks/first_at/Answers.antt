use Rattle.std.proofs.Common.{suc, ◌-◌, length, ap, ◌∙◌, arith}
use Rattle.entry_rows.specs.Order.{is_low}
use Rattle.entry_rows.proofs.OrderLaws.{low_parted}
use Rattle.entry_rows.proofs.ChunkLists.{row_within}
use Rattle.entry_rows.proofs.ChunkLaws.{row_parted, from_start, parted_before, parted_from}
use Rattle.entry_rows.proofs.chunks.Chunks.first_at.Goals as goal

pub returns-then-low-eq0-clause-from : goal.returns-then-low-eq0-clause-from
returns-then-low-eq0-clause-from c =
    from_start (λ r. r.items) c.args.self.now.rows.items c.requires.some (is_low c.args.path) (low_parted c.args.path _ c.requires.rising)
    (λ i e lt. c.rows_low-low.ensures.from i e (omega (arith, c.if-low-eq0.true)) lt)

pub first_at-requires : goal.first_at-requires
first_at-requires c =
    rw (c.deref.ensures.value ∙ ap (λ r. r.items) c.index.ensures)
    (row_parted (λ r. r.items) c.args.self.now.rows.items c.requires.some (is_low c.args.path) (low_parted c.args.path _ c.requires.rising)
    (c.rows_low-low.result - 1) c.index.result.now (omega (arith, c.if-low-eq0.false)))

pub returns-clause-within : goal.returns-clause-within
returns-clause-within c = omega (arith, row_within (λ r. r.items) c.args.self.now.rows.items (c.rows_low-low.result - 1) c.index.result.now (omega (arith, c.if-low-eq0.false)), c.first_at.ensures.within, ap length c.deref.ensures.value, ap (λ r. length r.items) c.index.ensures)

pub returns-clause-before : goal.returns-clause-before
returns-clause-before c =
    let rows = c.args.self.now.rows.items in
    let i = c.rows_low-low.result - 1 in
    let e = c.index.result.now in
    let row = c.deref.ensures.value ∙ ap (λ r. r.items) c.index.ensures in
    parted_before (λ r. r.items) rows c.requires.some (is_low c.args.path) (low_parted c.args.path _ c.requires.rising) i c.first_at.result e (omega (arith, c.if-low-eq0.false))
    (rw row at c.first_at.ensures.within) (c.rows_low-low.ensures.before i e (omega arith) (omega (arith, c.if-low-eq0.false)))
    (rw row at c.first_at.ensures.before) (rw row at c.first_at.ensures.from) (λ lt. c.rows_low-low.ensures.from (suc i) e (omega arith) lt)

pub returns-clause-from : goal.returns-clause-from
returns-clause-from c =
    let rows = c.args.self.now.rows.items in
    let i = c.rows_low-low.result - 1 in
    let e = c.index.result.now in
    let row = c.deref.ensures.value ∙ ap (λ r. r.items) c.index.ensures in
    parted_from (λ r. r.items) rows c.requires.some (is_low c.args.path) (low_parted c.args.path _ c.requires.rising) i c.first_at.result e (omega (arith, c.if-low-eq0.false))
    (rw row at c.first_at.ensures.within) (c.rows_low-low.ensures.before i e (omega arith) (omega (arith, c.if-low-eq0.false)))
    (rw row at c.first_at.ensures.before) (rw row at c.first_at.ensures.from) (λ lt. c.rows_low-low.ensures.from (suc i) e (omega arith) lt)

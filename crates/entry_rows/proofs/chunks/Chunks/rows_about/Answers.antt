use Rattle.std.proofs.Common.{arith}
use Rattle.entry_rows.specs.Order.{IsLower}
use Rattle.entry_rows.proofs.RowLaws.{all_later}
use Rattle.entry_rows.proofs.chunks.Chunks.rows_about.Goals as goal

pub returns-else-from-to-clause-above : goal.returns-else-from-to-clause-above
returns-else-from-to-clause-above c =
    all_later (λ r. r.items) c.args.self.now.rows.items (λ s. IsLower c.args.last.now s) c.row_past-to.result c.row_from-from.result (omega arith) c.row_past-to.ensures.above

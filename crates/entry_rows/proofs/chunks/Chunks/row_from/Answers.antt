use Rattle.std.proofs.Common.{◌≡◌, ◌∙◌, ap, arith}
use Rattle.entry_rows.specs.Chunks.{place}
use Rattle.entry_rows.specs.Order.{IsLower}
use Rattle.entry_rows.proofs.OrderLaws.{lt_less}
use Rattle.entry_rows.proofs.RowLaws.{all_before}
use Rattle.entry_rows.proofs.chunks.Chunks.row_from.Goals as goal

pub returns-clause-below : goal.returns-clause-below
returns-clause-below c =
    let spot = c.first_from.result in
    let id : c.text.result.now ≡ c.args.slot.now.entry.id = c.text.ensures.text ∙ ap (λ e. e.id) c.entry.ensures in
    let before = rw id at c.first_from.ensures.before in
    all_before (λ r. r.items) c.args.self.now.rows.items (λ s. IsLower s c.args.slot.now) spot.row (place c.args.self.now spot) (omega arith)
    (λ k d low high. lt_less _ (before k d low high))

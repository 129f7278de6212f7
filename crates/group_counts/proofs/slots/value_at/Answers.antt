use Rattle.view_changes.specs.Serving.{rows_of}
use Rattle.document_rows.specs.Reading.{row_at}
use Rattle.group_counts.proofs.SlotLaws.{cell-some}
use Rattle.group_counts.proofs.slots.value_at.Goals as goal

pub returns-in-Some : goal.returns-in-Some
returns-in-Some g c = λ name lent.
    let rows = rows_of c.args.hit.node (g.V.Lists.seen c.args.view.now) in
    cell-some name c.args.field.now (row_at rows c.args.hit.local) c.in-Some.value.now (c.in-Some.ensures name c.args.field.now (row_at rows) lent)

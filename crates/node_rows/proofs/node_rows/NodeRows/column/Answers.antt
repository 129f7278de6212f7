use Rattle.std.proofs.Common.{subst}
use Rattle.std.specs.Option.{option_copied}
use Rattle.field_indexes.specs.Told.{fields_of}
use Rattle.document_indexes.specs.Entering.{IsLent}
use Rattle.document_rows.specs.Reading.{row_at}
use Rattle.node_rows.specs.Kept.{documents_in}
use Rattle.node_rows.specs.TypedRows.{TypedRows}
use Rattle.node_rows.proofs.ColumnLaws.{lent_is}
use Rattle.node_rows.proofs.node_rows.NodeRows.column.Goals as goal

pub returns : goal.returns
returns c =
    let name = c.args.type_name.now in
    let field = c.args.field.now in
    subst (λ (t : TypedRows). IsLent name field (row_at t.rows) (option_copied c.index.result)) c.self.view_is
    (lent_is c.self.inside.schema c.self.inside.ids (documents_in c.self.inside.rows.items) c.self.inside.indexes.types (fields_of c.self.inside.indexes.fields) name field (option_copied c.index.result) c.self.invariant c.index.ensures)

use Rattle.std.proofs.Common.{ap, ◌∙◌}
use Rattle.document_rows.specs.Reading.{places_where, is_of_type}
use Rattle.node_rows.specs.Kept.{documents_in}
use Rattle.node_rows.specs.TypedRows.{TypedRows}
use Rattle.node_rows.proofs.ReadLaws.{same_places}
use Rattle.node_rows.proofs.node_rows.NodeRows.of_type.Goals as goal

pub returns-clause-ids : goal.returns-clause-ids
returns-clause-ids c =
    let name = c.args.type_name.now in
    let is = c.self.invariant.indexed in
    c.of_type.ensures.ids ∙ same_places (is_of_type name) (documents_in c.self.inside.rows.items) _ (is.rise name) (is.tell name) ∙ ap (λ (t : TypedRows). places_where (is_of_type name) t.rows) c.self.view_is

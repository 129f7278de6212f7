use Rattle.std.proofs.Common.{ap, ◌∙◌}
use Rattle.document_rows.specs.Reading.{places_where, is_any}
use Rattle.node_rows.specs.Kept.{documents_in}
use Rattle.node_rows.specs.TypedRows.{TypedRows}
use Rattle.node_rows.proofs.ReadLaws.{keys_are}
use Rattle.node_rows.proofs.node_rows.NodeRows.locals.Goals as goal

pub returns-clause-ids : goal.returns-clause-ids
returns-clause-ids c = c.locals.ensures.ids ∙ keys_are _ c.self.inside.ids (documents_in c.self.inside.rows.items) _ _ c.self.invariant ∙ ap (λ (t : TypedRows). places_where is_any t.rows) c.self.view_is

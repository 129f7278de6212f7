use Rattle.std.proofs.Common.{subst}
use Rattle.node_rows.specs.Kept.{documents_in}
use Rattle.node_rows.specs.TypedRows.{TypedRows, AreFitted}
use Rattle.node_rows.proofs.ReadLaws.{are_fitted}
use Rattle.node_rows.proofs.node_rows.NodeRows.len.Goals as goal

pub returns-clause-fitted : goal.returns-clause-fitted
returns-clause-fitted c = subst (λ (t : TypedRows). AreFitted t.types t.rows) c.self.view_is (are_fitted c.self.inside.schema (documents_in c.self.inside.rows.items) c.self.invariant.proper)

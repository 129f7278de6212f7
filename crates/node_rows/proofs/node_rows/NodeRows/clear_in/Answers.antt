use Rattle.std.proofs.Common.{sym, ap, ◌∙◌, cond, None}
use Rattle.document_rows.specs.Reading.{row_at}
use Rattle.node_rows.specs.Kept.{set_at}
use Rattle.node_rows.specs.TypedRows.{with_rows}
use Rattle.node_rows.proofs.MoreLaws.{set_own}
use Rattle.node_rows.proofs.node_rows.NodeRows.clear_in.Goals as goal

pub returns-else-lies_in : goal.returns-else-lies_in
returns-else-lies_in c =
    let now = c.args.self.now in
    let n = c.args.local in
    ap (λ rs. with_rows rs now) (sym (ap (λ t. set_at n (cond t None (row_at now.rows n)) now.rows) (sym c.lies_in.ensures ∙ c.if-lies_in.false) ∙ set_own n now.rows c.requires))

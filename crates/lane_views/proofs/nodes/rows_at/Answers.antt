use Rattle.std.proofs.Common.{sym, ap, ◌∙◌, arith}
use Rattle.view_changes.specs.Views.{NodeView}
use Rattle.lane_views.specs.Typed.{TypedNode}
use Rattle.lane_views.proofs.StepLaws.{node-made, node-past}
use Rattle.lane_views.proofs.nodes.rows_at.Goals as goal

pub returns-then-at-nodes-clause-some : goal.returns-then-at-nodes-clause-some
returns-then-at-nodes-clause-some c =
    c.rows.ensures.rows ∙ ap (λ (t : TypedNode). (t.node).rows) c.index-nodes-at.is ∙ sym (ap (λ (n : NodeView). n.rows) (node-made c.args.node c.from-at.result c.args.nodes.now c.index-nodes-at.result c.from-at.ensures c.if-at-nodes.true))

pub returns-else-at-nodes-clause-none : goal.returns-else-at-nodes-clause-none
returns-else-at-nodes-clause-none c = ap (λ (n : NodeView). n.rows) (node-past c.args.node c.args.nodes.now (omega arith))

use Rattle.std.proofs.Common.{sym, ap, ◌∙◌, arith}
use Rattle.view_changes.specs.Serving.{serves}
use Rattle.lane_views.specs.Typed.{TypedNode}
use Rattle.lane_views.proofs.StepLaws.{serves-made, serves-past}
use Rattle.lane_views.proofs.nodes.serves_at.Goals as goal

pub returns-then-at-nodes : goal.returns-then-at-nodes
returns-then-at-nodes c =
    c.serves.ensures ∙ ap (λ (t : TypedNode). serves c.args.version t.node) c.index-nodes-at.is ∙ sym (serves-made c.args.node c.from-at.result c.args.version c.args.nodes.now c.index-nodes-at.result c.from-at.ensures c.if-at-nodes.true)

pub returns-else-at-nodes : goal.returns-else-at-nodes
returns-else-at-nodes c = sym (serves-past c.args.node c.args.version c.args.nodes.now (omega arith))

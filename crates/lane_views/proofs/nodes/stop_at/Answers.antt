use Rattle.std.proofs.Common.{sym, arith}
use Rattle.view_changes.specs.Views.{stopped_as}
use Rattle.lane_views.proofs.StepLaws.{set-made, step-past}
use Rattle.lane_views.proofs.nodes.stop_at.Goals as goal

pub returns-then-at-nodes : goal.returns-then-at-nodes
returns-then-at-nodes c = set-made _ _ (λ types. stopped_as c.args.stopped) _ _ _ c.from-at.ensures c.if-at-nodes.true c.stop.ensures

pub returns-else-at-nodes : goal.returns-else-at-nodes
returns-else-at-nodes c = sym (step-past c.args.node _ c.args.nodes.now (omega arith))

use Rattle.std.proofs.Common.{sym, arith}
use Rattle.view_changes.specs.Views.{adopted}
use Rattle.lane_views.proofs.StepLaws.{set-made, step-past}
use Rattle.lane_views.proofs.nodes.adopt_at.Goals as goal

pub returns-in_ok-adopt-clause-ok : goal.returns-in_ok-adopt-clause-ok
returns-in_ok-adopt-clause-ok c = set-made _ _ (λ types. adopted c.args.version) _ _ _ c.from-at.ensures c.if-at-nodes.true c.in_ok-adopt.ensures.ok

pub returns-else-at-nodes-clause-ok : goal.returns-else-at-nodes-clause-ok
returns-else-at-nodes-clause-ok c = sym (step-past c.args.node _ c.args.nodes.now (omega arith))

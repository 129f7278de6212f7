use Rattle.std.proofs.Common.{sym, ◌∙◌, arith}
use Rattle.lane_views.proofs.MeasureLaws.{node-counted, node-skipped}
use Rattle.lane_views.proofs.nodes.measure_at.Goals as goal
use Rattle.lane_views.proofs.nodes.measure_at.Goals.{then-serves, else-serves}

pub measure-sum-requires : goal.measure-sum-requires
measure-sum-requires c =
    omega (arith, c.requires, node-counted c.args.version c.args.nodes.now c.loop-node.node-index c.node-item.result c.loop-node.sum _ c.loop-node-test.true c.node-item.is (sym c.serves.ensures ∙ c.if-serves.true) c.loop-node.invariant)

pub overflow_add-sum : goal.overflow_add-sum
overflow_add-sum c =
    omega (arith, c.requires, c.measure-sum.ensures, node-counted c.args.version c.args.nodes.now c.loop-node.node-index c.node-item.result c.loop-node.sum _ c.loop-node-test.true c.node-item.is (sym c.serves.ensures ∙ c.if-serves.true) c.loop-node.invariant)

pub loop-node-preserved : goal.loop-node-preserved
loop-node-preserved c =
    elim c.if-serves.branch [
      | then-serves w ↦ omega (arith, w.sum-is, w.measure-sum.ensures, node-counted c.args.version c.args.nodes.now c.loop-node.node-index c.node-item.result c.loop-node.sum _ c.loop-node-test.true c.node-item.is (sym c.serves.ensures ∙ w.if-serves.true) c.loop-node.invariant)
      | else-serves w ↦ omega (arith, w.sum-is, node-skipped c.args.version c.args.nodes.now c.loop-node.node-index c.node-item.result c.loop-node.sum _ c.loop-node-test.true c.node-item.is (sym c.serves.ensures ∙ w.if-serves.false) c.loop-node.invariant)
    ]

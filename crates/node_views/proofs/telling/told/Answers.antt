use Rattle.std.proofs.Common.{◌≡◌, ap, ◌∙◌, arith}
use Rattle.node_sets.specs.Members.{has_node}
use Rattle.node_model.specs.Telling.{kept_of}
use Rattle.lane_keeping.specs.LaneKeeping.{node_in}
use Rattle.node_views.specs.NodesTold.{with_nodes}
use Rattle.node_views.proofs.telling.told.Goals as goal

pub returns : goal.returns
returns c =
    let all : c.loop-number.number ≡ 32 = omega (arith, c.loop-number-test.false, c.loop-number.auto.number-end) in
    c.loop-number.invariant ∙ ap (with_nodes c.args.schema.now (λ n. kept_of (node_in c.args.nodes.now n)) (has_node c.args.stopped)) all

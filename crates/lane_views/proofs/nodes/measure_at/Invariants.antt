use Rattle.std.proofs.Common.{◌≡◌, ◌+◌, drop}
use Rattle.coverage.specs.Covering.{measure_of}
use Rattle.view_changes.specs.Serving.{node_regions}
use Rattle.lane_views.specs.Typed.{nodes_of}
use Rattle.lane_views.proofs.nodes.measure_at.Given as goal

abbrev pub invariant-loop-node : goal.invariant-loop-node
invariant-loop-node l = l.sum + measure_of (node_regions l.version (nodes_of (drop l.node-index l.nodes))) ≡ measure_of (node_regions l.version (nodes_of l.nodes))

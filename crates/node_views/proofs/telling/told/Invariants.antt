use Rattle.std.proofs.Common.{◌≡◌}
use Rattle.node_sets.specs.Members.{has_node}
use Rattle.node_model.specs.Telling.{kept_of}
use Rattle.lane_keeping.specs.LaneKeeping.{node_in}
use Rattle.node_views.specs.NodesTold.{with_nodes}
use Rattle.node_views.proofs.telling.told.Given as goal

-- the nodes so far were told
abbrev pub invariant-loop-number : goal.invariant-loop-number
invariant-loop-number l = l.view ≡ with_nodes l.schema (λ n. kept_of (node_in l.nodes n)) (has_node l.stopped) l.number

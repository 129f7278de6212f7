use Rattle.std.proofs.Common.{◌≡◌}
use Rattle.view_changes.specs.Views.{new_node}
use Rattle.lane_views.specs.Typed.{alike}
use Rattle.lane_views.proofs.nodes.new_nodes.Given as goal

abbrev pub invariant-loop : goal.invariant-loop
invariant-loop l = l.nodes.items ≡ alike l.counter (record { types = l.schema; node = new_node })

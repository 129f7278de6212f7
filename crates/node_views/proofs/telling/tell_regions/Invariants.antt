use Rattle.std.proofs.Common.{◌≡◌, ◌≤◌, length, drop}
use Rattle.node_views.specs.NodesTold.{with_regions}
use Rattle.node_views.proofs.telling.tell_regions.Given as goal

-- the regions from here on were told
abbrev pub invariant-loop-at : goal.invariant-loop-at
invariant-loop-at l = (l.at ≤ length l.regions) × (l.view ≡ with_regions l.number (l.node).entries (drop l.at l.regions) l.initial.view)

abbrev pub decreases-loop-at : goal.decreases-loop-at
decreases-loop-at l = l.at

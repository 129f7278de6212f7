use Rattle.std.proofs.Common.{◌-ℤ◌, map}
use Rattle.view_changes.specs.Serving.{rows_of}
use Rattle.match_views.specs.Bounds.{within}
use Rattle.match_views.proofs.RangeLaws.{above_zero, AreSoFar}
use Rattle.match_views.proofs.ranges.numbers_so.Given as goal

abbrev pub decreases-loop-own : goal.decreases-loop-own
decreases-loop-own g l = above_zero (l.high -ℤ l.from)

abbrev pub invariant-loop-own : goal.invariant-loop-own
invariant-loop-own g l = AreSoFar l.type_name l.field (rows_of l.node (g.L.Lists.seen l.lists)) (within l.one l.two) l.low l.from (map (λ p. (p.0, p.1.now)) l.parts.items)

use Rattle.std.proofs.Common.{◌≡◌, ◌-◌, ◌≤◌}
use Rattle.node_sets.specs.Members.{size_below}
use Rattle.node_sets.proofs.node_set.NodeSet.at.Given as goal

-- the members so far were passed over
abbrev pub invariant-loop-self : goal.invariant-loop-self
invariant-loop-self l = (l.seen ≡ size_below l.self l.node) × (l.node ≤ 32) × (l.seen ≤ l.index)

abbrev pub decreases-loop-self : goal.decreases-loop-self
decreases-loop-self l = 32 - l.node

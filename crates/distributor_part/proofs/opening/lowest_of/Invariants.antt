-- no number so far is a member
use Rattle.std.proofs.Common.{◌≡◌, ℕ, ◌<◌, false}
use Rattle.node_sets.specs.Members.{has_node}
use Rattle.distributor_part.proofs.opening.lowest_of.Given as goal

abbrev pub invariant-loop-node : goal.invariant-loop-node
invariant-loop-node l = (n : ℕ) → n < l.node → has_node l.nodes n ≡ false

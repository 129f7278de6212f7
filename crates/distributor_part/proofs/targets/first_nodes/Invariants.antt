-- the nodes of the places so far
use Rattle.std.proofs.Common.{◌≡◌, ◌↔◌, ℕ, true, take}
use Rattle.node_sets.specs.Members.{has_node}
use Rattle.ideal_nodes.specs.Scores.{Has}
use Rattle.distributor_part.proofs.targets.first_nodes.Given as goal

abbrev pub invariant-loop-place : goal.invariant-loop-place
invariant-loop-place l = (n : ℕ) → (has_node l.nodes n ≡ true) ↔ Has n (take l.place l.list)

-- the numbers below are looked at, the others not yet
use Rattle.std.proofs.Common.{◌≡◌, ◌<◌, ◌≤◌, ℕ, false}
use Rattle.node_sets.specs.Members.{has_node}
use Rattle.distributor_part.specs.Steps.{did_show}
use Rattle.distributor_part.proofs.opening.shown_by.Given as goal

abbrev pub invariant-loop-node : goal.invariant-loop-node
invariant-loop-node l = record {
  below : (n : ℕ) → n < l.node → has_node l.nodes n ≡ did_show l.shown n;
  from : (n : ℕ) → l.node ≤ n → has_node l.nodes n ≡ false;
}

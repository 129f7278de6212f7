use Rattle.std.proofs.Common.{◌≡◌, ◌<◌, ◌≤◌, ℕ, false}
use Rattle.node_sets.specs.Members.{has_node}
use Rattle.merge_rounds.specs.Rounds.{did_show}
use Rattle.merge_rounds.proofs.shown.showers.Given as goal

-- the numbers below are given, the others not yet
abbrev pub invariant-loop-node : goal.invariant-loop-node
invariant-loop-node l = record {
  below : (n : ℕ) → n < l.node → has_node l.nodes n ≡ did_show n l.shown;
  from : (n : ℕ) → l.node ≤ n → has_node l.nodes n ≡ false;
}

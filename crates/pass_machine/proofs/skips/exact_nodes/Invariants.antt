-- the numbers below are looked at, the others not yet
use Rattle.std.proofs.Common.{◌≡◌, ◌<◌, ◌≤◌, ℕ, false, is_some}
use Rattle.node_sets.specs.Members.{has_node}
use Rattle.pass_machine.specs.Settling.{serial_among}
use Rattle.pass_machine.proofs.skips.exact_nodes.Given as goal

abbrev pub invariant-loop-node : goal.invariant-loop-node
invariant-loop-node l = record {
  below : (n : ℕ) → n < l.node → has_node l.nodes n ≡ is_some (serial_among l.note.exact.items n);
  from : (n : ℕ) → l.node ≤ n → has_node l.nodes n ≡ false;
}

use Rattle.std.proofs.Common.{◌≡◌, ◌<◌, ◌≤◌, ℕ, false}
use Rattle.node_sets.specs.Members.{has_node}
use Rattle.pass_machine.proofs.skips.first_from.Given as goal

-- no number before is a member
abbrev pub invariant-loop-at : goal.invariant-loop-at
invariant-loop-at l = (n : ℕ) → l.node ≤ n → n < l.at → has_node l.set n ≡ false

use Rattle.std.proofs.Common.{◌≡◌, ◌<◌, ℕ, true}
use Rattle.node_sets.specs.Members.{has_node}
use Rattle.merge_rounds.specs.Rounds.{did_show}
use Rattle.merge_rounds.proofs.shown.have_all.Given as goal

abbrev pub invariant-loop-node : goal.invariant-loop-node
invariant-loop-node l = (n : ℕ) → n < l.node → has_node l.readers n ≡ true → did_show n l.shown ≡ true

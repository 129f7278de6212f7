use Rattle.std.proofs.Common.{◌≡◌, ◌<◌, ℕ, false, get_or}
use Rattle.node_sets.specs.Members.{has_node}
use Rattle.distributor_part.proofs.targets.first_member.Given as goal

abbrev pub invariant-loop-place : goal.invariant-loop-place
invariant-loop-place l = (before : ℕ) → before < l.place → has_node l.members (get_or l.list before 0) ≡ false

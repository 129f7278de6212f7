-- Members of a set of nodes.
use Rattle.std.proofs.Common.{◌≡◌, ℕ, ◌<◌, ◌≤◌, true, false, arith}
use Rattle.std.proofs.lemmas.Bool.Decides.{nat_tests}
use Rattle.node_sets.specs.Members.{has_node, size_below}
use Rattle.merge_rounds.specs.Rounds.{IsNth}

pub member_small : (set node : ℕ) → has_node set node ≡ true → node < 32
unfolding has_node
member_small set node h = grind (arith, nat_tests)

pub no_member_past : (set node : ℕ) → 32 ≤ node → has_node set node ≡ false
unfolding has_node
no_member_past set node h = grind (arith, nat_tests)

pub is_nth : (set before node : ℕ) → has_node set node ≡ true → size_below set node ≡ before → IsNth set before node
is_nth set before node member place = record { member = member; place = place; small = member_small set node member }

use Rattle.std.proofs.Common.{arith}
use Rattle.node_sets.proofs.Bits.{has_and_not}
use Rattle.node_sets.proofs.node_set.without_bits.Goals as goal

pub returns-clause-members : goal.returns-clause-members
returns-clause-members c n = has_and_not _ _ n (omega (arith, c.ranges.other))

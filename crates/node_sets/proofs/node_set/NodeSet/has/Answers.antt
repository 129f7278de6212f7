use Rattle.std.proofs.Common.{arith}
use Rattle.node_sets.proofs.Bits.{past_bits}
use Rattle.node_sets.proofs.node_set.NodeSet.has.Goals as goal

pub returns-else-node-lt32 : goal.returns-else-node-lt32
returns-else-node-lt32 c = past_bits _ _ (omega (arith, c.if-node-lt32.false))

use Rattle.node_sets.proofs.Bits.{has_bit}
use Rattle.node_sets.proofs.node_set.has_bit.Goals as goal

pub returns : goal.returns
returns c = has_bit _ _ c.requires

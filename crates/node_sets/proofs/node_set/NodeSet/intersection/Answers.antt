use Rattle.node_sets.proofs.Bits.{has_and}
use Rattle.node_sets.proofs.node_set.NodeSet.intersection.Goals as goal

pub returns : goal.returns
returns c n = rw (← c.self.view_is, ← c.other.view_is) (has_and _ _ n)

use Rattle.node_sets.proofs.Bits.{has_or}
use Rattle.node_sets.proofs.node_set.NodeSet.union.Goals as goal

pub returns : goal.returns
returns c n = rw (← c.self.view_is, ← c.other.view_is) (has_or _ _ n)

use Rattle.std.proofs.Common.{◌&&◌, not, ap, ◌∙◌}
use Rattle.node_sets.specs.Members.{has_node}
use Rattle.node_sets.proofs.Bits.{has_and_not, has_one, one_small}
use Rattle.node_sets.proofs.node_set.NodeSet.without.Goals as goal

pub returns : goal.returns
returns c n = rw (← c.self.view_is) (has_and_not _ _ n (one_small c.args.node) ∙ ap (λ x. has_node c.self.inside.bits n && not x) (has_one c.args.node n c.requires))

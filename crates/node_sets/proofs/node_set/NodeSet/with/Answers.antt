use Rattle.std.proofs.Common.{◌||◌, ap, ◌∙◌}
use Rattle.node_sets.specs.Members.{has_node}
use Rattle.node_sets.proofs.Bits.{has_or, has_one}
use Rattle.node_sets.proofs.node_set.NodeSet.with.Goals as goal

pub returns : goal.returns
returns c n = rw (← c.self.view_is) (has_or _ _ n ∙ ap (λ x. has_node c.self.inside.bits n || x) (has_one c.args.node n c.requires))

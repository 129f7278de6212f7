use Rattle.std.proofs.Common.{◌∙◌, sym}
use Rattle.node_sets.proofs.Bits.{size_whole}
use Rattle.node_sets.proofs.node_set.NodeSet.len.Goals as goal

pub returns-clause-value : goal.returns-clause-value
returns-clause-value c = c.len_below.ensures.value ∙ sym (size_whole c.args.self)

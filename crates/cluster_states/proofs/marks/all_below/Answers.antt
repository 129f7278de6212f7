use Rattle.cluster_states.proofs.MarkSets.{has_below}
use Rattle.cluster_states.proofs.marks.all_below.Goals as goal

pub returns : goal.returns
returns c n = has_below c.args.count n c.requires

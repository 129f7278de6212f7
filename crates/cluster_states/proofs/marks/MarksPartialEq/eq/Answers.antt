use Rattle.cluster_states.proofs.MarkSets.{same_fields}
use Rattle.cluster_states.proofs.marks.MarksPartialEq.eq.Goals as goal

pub returns : goal.returns
returns c = same_fields c.eq.ensures c.and_eq.ensures c.and_eq-2.ensures (search) (search) (search) (search)

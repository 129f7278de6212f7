use Rattle.cluster_states.proofs.GroupMoves.{to_groups, past_groups}
use Rattle.cluster_states.proofs.groups.at_counts_space.Goals as goal

pub returns-then-letter-eq103 : goal.returns-then-letter-eq103
returns-then-letter-eq103 c = rw c.at.ensures (to_groups c.args.state c.args.letter c.if-letter-eq103.true c.requires)

pub returns : goal.returns
returns c = past_groups c.args.state c.args.letter c.at_space.result c.if-letter-eq103.false c.requires c.at_space.ensures

use Rattle.cluster_states.proofs.GroupMoves.{counts_letter}
use Rattle.cluster_states.proofs.groups.at_counts.Goals as goal

pub returns-else-letter-eq32 : goal.returns-else-letter-eq32
returns-else-letter-eq32 c = counts_letter c.args.state c.args.letter c.if-letter-eq32.false

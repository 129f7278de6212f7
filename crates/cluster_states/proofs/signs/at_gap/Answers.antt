use Rattle.cluster_states.proofs.SpaceMoves.{gap_letter}
use Rattle.cluster_states.proofs.signs.at_gap.Goals as goal

pub returns-then-letter-ne32 : goal.returns-then-letter-ne32
returns-then-letter-ne32 c = gap_letter c.args.role c.args.least c.args.state c.args.letter c.if-letter-ne32.true

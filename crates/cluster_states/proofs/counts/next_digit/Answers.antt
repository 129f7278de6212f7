use Rattle.std.proofs.Common.{arith}
use Rattle.cluster_states.proofs.Moving.{next_moves}
use Rattle.cluster_states.proofs.counts.next_digit.Goals as goal

pub returns-else-value-eq0 : goal.returns-else-value-eq0
returns-else-value-eq0 c =
    next_moves _ _ _ _ _ _ c.requires.low c.requires.high (omega arith) (omega (arith, c.from.ensures)) c.digits.ensures c.requires.place

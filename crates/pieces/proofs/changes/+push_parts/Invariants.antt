use Rattle.std.proofs.Common.{◌-◌}
use Rattle.pieces.proofs.changes.+push_parts.Given as goal

abbrev pub decreases-push_parts : goal.decreases-push_parts
decreases-push_parts l = l.to.bits - l.from.bits

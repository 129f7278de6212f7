use Rattle.std.proofs.Common.{sym}
use Rattle.entry_maps.proofs.AloneLaws.{its_own, no_other}
use Rattle.entry_maps.proofs.kept.if_of.Goals as goal

pub returns-then-is_of : goal.returns-then-is_of
returns-then-is_of c = sym (its_own c.args.entry.now c.args.id.now (c.is_of.ensures.its c.if-is_of.true))

pub returns-else-is_of : goal.returns-else-is_of
returns-else-is_of c = sym (no_other c.args.entry.now c.args.id.now (c.is_of.ensures.other c.if-is_of.false))

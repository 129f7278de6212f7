use Rattle.std.proofs.Common.{◌∙◌}
use Rattle.entry_maps.proofs.RemovalLaws.{alone_removed, alone_left}
use Rattle.entry_maps.proofs.kept.Kept.remove.Goals as goal

pub returns-then-is_of-clause-entries : goal.returns-then-is_of-clause-entries
returns-then-is_of-clause-entries c = c.none.ensures.entries ∙ rw c.in-One.is (alone_removed c.in-One.entry c.args.id.now (c.is_of.ensures.its c.if-is_of.true))

pub returns-else-is_of-clause-entries : goal.returns-else-is_of-clause-entries
returns-else-is_of-clause-entries c = rw c.in-One.is (alone_left c.in-One.entry c.args.id.now (c.is_of.ensures.other c.if-is_of.false))

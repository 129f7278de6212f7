use Rattle.std.proofs.Common.{◌≡◌, ◌≢◌, ◌∙◌, ap}
use Rattle.entry_maps.proofs.RemovalLaws.{alone_instead, alone_stays}
use Rattle.entry_maps.proofs.kept.Kept.put_instead.Goals as goal

pub returns-then-is_of-clause-entries : goal.returns-then-is_of-clause-entries
returns-then-is_of-clause-entries c =
    let one = c.in-One.one in
    let same : one.id ≡ c.args.entry.id = c.is_of.ensures.its c.if-is_of.true ∙ ap (λ e. e.id) c.entry-in-One.ensures in
    rw c.in-One.is (alone_instead one c.args.entry same)

pub returns-else-is_of-clause-entries : goal.returns-else-is_of-clause-entries
returns-else-is_of-clause-entries c =
    let one = c.in-One.one in
    let other : one.id ≢ c.args.entry.id = rw c.entry-in-One.ensures at (c.is_of.ensures.other c.if-is_of.false) in
    rw c.in-One.is (alone_stays one c.args.entry other)

use Rattle.std.proofs.Common.{◌∙◌, sym, ap}
use Rattle.entry_maps.specs.Entries.{in_bucket, alone}
use Rattle.entry_maps.proofs.AloneLaws.{all_stays, nothing_stays}
use Rattle.entry_maps.proofs.kept.Kept.within.Goals as goal

pub returns-in_ok-copy-in-One-clause-entries : goal.returns-in_ok-copy-in-One-clause-entries
returns-in_ok-copy-in-One-clause-entries c =
    let e = c.in-One.entry in
    ap alone c.in_ok-copy-in-One.ensures ∙ rw c.in-One.is (all_stays (in_bucket c.args.bucket) e (sym c.lies_in.ensures ∙ c.if-lies_in.true))

pub returns-else-lies_in-clause-entries : goal.returns-else-lies_in-clause-entries
returns-else-lies_in-clause-entries c =
    let e = c.in-One.entry in
    c.none.ensures.entries ∙ rw c.in-One.is (nothing_stays (in_bucket c.args.bucket) e (sym c.lies_in.ensures ∙ c.if-lies_in.false))

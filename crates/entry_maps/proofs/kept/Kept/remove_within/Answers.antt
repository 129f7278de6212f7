use Rattle.std.proofs.Common.{◌∙◌, sym, ap, not}
use Rattle.entry_maps.specs.Entries.{in_bucket}
use Rattle.entry_maps.proofs.AloneLaws.{all_stays, nothing_stays}
use Rattle.entry_maps.proofs.kept.Kept.remove_within.Goals as goal

pub returns-then-lies_in-clause-entries : goal.returns-then-lies_in-clause-entries
returns-then-lies_in-clause-entries c =
    let e = c.in-One.entry in
    c.none.ensures.entries ∙ rw c.in-One.is (nothing_stays (λ id. not (in_bucket c.args.bucket id)) e (ap not (sym c.lies_in.ensures ∙ c.if-lies_in.true)))

pub returns-else-lies_in-clause-entries : goal.returns-else-lies_in-clause-entries
returns-else-lies_in-clause-entries c =
    let e = c.in-One.entry in
    rw c.in-One.is (all_stays (λ id. not (in_bucket c.args.bucket id)) e (ap not (sym c.lies_in.ensures ∙ c.if-lies_in.false)))

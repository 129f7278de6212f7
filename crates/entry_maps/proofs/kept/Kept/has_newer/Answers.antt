use Rattle.std.proofs.Common.{◌∙◌, sym, subst}
use Rattle.entry_maps.specs.Entries.{HasNoneNewer, HasOneNewer}
use Rattle.entry_maps.specs.Kept.{kept_entries}
use Rattle.entry_maps.specs.declared.kept.Kept.{Kept}
use Rattle.entry_maps.proofs.NewerLaws.{alone_old, alone_newer}
use Rattle.entry_maps.proofs.kept.Kept.has_newer.Goals as goal

pub returns-in-One-clause-none : goal.returns-in-One-clause-none
returns-in-One-clause-none c = λ h.
    let there = kept_entries c.args.there.now in
    subst (λ (k : Kept). HasNoneNewer (kept_entries k) there) (sym c.in-One.is) (alone_old there c.in-One.entry (sym c.is_newer.ensures ∙ h))

pub returns-in-One-clause-some : goal.returns-in-One-clause-some
returns-in-One-clause-some c = λ h.
    let there = kept_entries c.args.there.now in
    subst (λ (k : Kept). HasOneNewer (kept_entries k) there) (sym c.in-One.is) (alone_newer there c.in-One.entry (sym c.is_newer.ensures ∙ h))

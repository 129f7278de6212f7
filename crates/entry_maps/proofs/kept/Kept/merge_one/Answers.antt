use Rattle.std.proofs.Common.{◌∙◌, ap}
use Rattle.std.specs.FinMap as fin
use Rattle.entry_maps.specs.Entries.{with_entry}
use Rattle.entry_maps.specs.Kept.{kept_entries}
use Rattle.entry_maps.proofs.AloneLaws.{newer_alone}
use Rattle.entry_maps.proofs.kept.Kept.merge_one.Goals as goal

pub returns-clause-ok : goal.returns-clause-ok
returns-clause-ok c = λ id.
    let m = kept_entries c.args.self.now in
    ap (λ n. fin.get n id) (c.in_ok-put.ensures.ok ∙ ap (with_entry m) c.in_ok-copy.ensures) ∙ newer_alone m c.args.other.now id

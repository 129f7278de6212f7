use Rattle.std.proofs.Common.{ℕ, sym, ◌∙◌, ap}
use Rattle.bucket_ids.specs.Buckets.{has_key}
use Rattle.entry_maps.specs.Entries.{with_entry}
use Rattle.message_texts.specs.Fitting.{FitEntries}
use Rattle.message_texts.proofs.JoinLaws.{fits_joined, if_joined}
use Rattle.message_texts.proofs.entries.join.Goals as goal

pub returns-clause-fits : goal.returns-clause-fits
returns-clause-fits c types entry fit =
    let inside = ap (λ (k : ℕ). has_key c.args.bucket k) (sym c.key_of.ensures.value) ∙ sym (c.contains.ensures.test c.key_of.ensures.small) ∙ c.if-not-contains.false in
    if_joined (with_entry c.args.map.now c.args.entry) c.put.new.self (FitEntries types c.args.bucket) c.put.result c.put.ensures.ok (fits_joined types c.args.bucket c.args.map.now c.args.entry entry inside fit)

use Rattle.std.proofs.Common.{◌∙◌, sym, true, false}
use Rattle.entry_maps.specs.Slots.{slots_in, entries_of}
use Rattle.entry_maps.proofs.StoredLaws.{with_newer}
use Rattle.entry_maps.proofs.stored.Stored.renew.Goals as goal

pub returns-then-not-is_newer-clause-entries : goal.returns-then-not-is_newer-clause-entries
returns-then-not-is_newer-clause-entries c = sym (with_newer (entries_of (slots_in c.args.self.now)) c.args.entry false (sym c.is_newer.ensures ∙ c.if-not-is_newer.true))

pub returns-clause-entries : goal.returns-clause-entries
returns-clause-entries c =
    c.replace.ensures.entries ∙ sym (with_newer (entries_of (slots_in c.args.self.now)) c.args.entry true (sym c.is_newer.ensures ∙ c.if-not-is_newer.false))

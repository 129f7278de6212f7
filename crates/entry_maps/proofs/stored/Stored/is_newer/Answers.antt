use Rattle.std.proofs.Common.{◌∙◌, sym, ap, Some}
use Rattle.stamps.specs.Order.{is_before}
use Rattle.entry_rows.specs.Chunks.{place}
use Rattle.entry_maps.specs.Slots.{slots_in, entries_of}
use Rattle.entry_maps.proofs.SlotLists.{get-entries_of}
use Rattle.entry_maps.proofs.StoredLaws.{found_there, newer_than}
use Rattle.entry_maps.proofs.stored.Stored.is_newer.Goals as goal

pub returns : goal.returns
returns c =
    let slots = slots_in c.args.self.now in
    let at = place c.args.self.now.list c.args.seat in
    let found = get-entries_of _ _ ∙ found_there slots c.args.entry.now.id at c.at.result.now c.requires.stored.kept c.requires.there ∙ ap (λ s. Some s.entry) (sym c.at.ensures) ∙ ap Some (sym c.entry-there.ensures) in
    sym (newer_than (entries_of slots) c.args.entry.now c.entry-there.result.now c.is_before.result found (ap (λ e. is_before c.entry-there.result.now.stamp e.stamp) (sym c.entry.ensures) ∙ sym c.is_before.ensures.test))

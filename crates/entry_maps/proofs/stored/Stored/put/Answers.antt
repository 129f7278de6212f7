use Rattle.std.proofs.Common.{◌∙◌, sym, ap, true}
use Rattle.std.specs.FinMap as fin
use Rattle.entry_maps.specs.Slots.{slots_in, entries_of}
use Rattle.entry_maps.proofs.SlotLists.{get-entries_of}
use Rattle.entry_maps.proofs.StoredLaws.{newer_than_none, with_newer}
use Rattle.entry_maps.proofs.stored.Stored.put.Goals as goal

pub returns-in_ok-add-in-Err-clause-taken : goal.returns-in_ok-add-in-Err-clause-taken
returns-in_ok-add-in-Err-clause-taken c =
    let m = entries_of (slots_in c.args.self.now) in
    sym (newer_than_none m c.args.entry (ap (λ e. fin.get m e.id) (sym c.entry.ensures) ∙ get-entries_of _ _ ∙ c.in-Err.ensures.none))

pub returns-in_ok-add-in-Err-clause-ok : goal.returns-in_ok-add-in-Err-clause-ok
returns-in_ok-add-in-Err-clause-ok c =
    let m = entries_of (slots_in c.args.self.now) in
    c.in_ok-add-in-Err.ensures.ok
    ∙ sym (with_newer m c.args.entry true (newer_than_none m c.args.entry (ap (λ e. fin.get m e.id) (sym c.entry.ensures) ∙ get-entries_of _ _ ∙ c.in-Err.ensures.none)))

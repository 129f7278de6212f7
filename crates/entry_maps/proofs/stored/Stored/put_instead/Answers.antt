use Rattle.std.proofs.Common.{◌≡◌, ◌∙◌, sym, ap}
use Rattle.std.specs.FinMap as fin
use Rattle.entry_rows.specs.Chunks.{place}
use Rattle.entry_maps.specs.Slots.{slots_in, entries_of, IsSlotOf}
use Rattle.entry_maps.proofs.SlotLists.{get-entries_of}
use Rattle.entry_maps.proofs.RemovalLaws.{instead_there, instead_none}
use Rattle.entry_maps.proofs.stored.Stored.put_instead.Goals as goal

pub returns-in-Ok-clause-entries : goal.returns-in-Ok-clause-entries
returns-in-Ok-clause-entries c =
    let slots = slots_in c.args.self.now in
    let e = c.args.entry in
    let at = place c.args.self.now.list c.in-Ok.seat in
    let there : IsSlotOf slots e.id at = rw c.entry-2.ensures at c.in-Ok.ensures.found in
    c.replace.ensures.entries ∙ instead_there slots e at (record { path = c.args.path; entry = e }) c.requires.stored.kept there

pub returns-in_default-clause-entries : goal.returns-in_default-clause-entries
returns-in_default-clause-entries c =
    let m = entries_of (slots_in c.args.self.now) in
    instead_none m c.args.entry (ap (λ e. fin.get m e.id) (sym c.entry-2.ensures) ∙ get-entries_of _ _ ∙ c.in_default.ensures.none)

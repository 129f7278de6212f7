use Rattle.std.proofs.Common.{◌∙◌}
use Rattle.entry_maps.specs.Slots.{slots_in, entries_of}
use Rattle.entry_maps.proofs.SlotLists.{get-entries_of}
use Rattle.entry_maps.proofs.RemovalLaws.{removed_none}
use Rattle.entry_maps.proofs.stored.Stored.remove.Goals as goal

pub returns-in_default-clause-entries : goal.returns-in_default-clause-entries
returns-in_default-clause-entries c =
    let slots = slots_in c.args.self.now in
    removed_none (entries_of slots) c.args.id.now (get-entries_of slots c.args.id.now ∙ c.in_default.ensures.none)

use Rattle.std.proofs.Common.{◌∙◌, sym, ap, Some}
use Rattle.entry_maps.proofs.SlotLists.{get-entries_of}
use Rattle.entry_maps.proofs.StoredLaws.{found_there}
use Rattle.entry_maps.proofs.stored.Stored.get.Goals as goal

pub returns-in-Ok : goal.returns-in-Ok
returns-in-Ok c =
    sym (found_there _ _ _ c.at.result.now c.requires.stored.kept c.in-Ok.ensures.found ∙ ap (λ s. Some s.entry) (sym c.at.ensures)) ∙ sym (get-entries_of _ _)

pub returns-in-Err : goal.returns-in-Err
returns-in-Err c = sym (get-entries_of _ _ ∙ c.in-Err.ensures.none)

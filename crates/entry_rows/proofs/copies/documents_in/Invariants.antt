use Rattle.std.proofs.Common.{◌≡◌, take, count_by}
use Rattle.entry_rows.specs.Slots.{has_document}
use Rattle.entry_rows.proofs.copies.documents_in.Given as goal

-- those of the slots so far are counted
abbrev pub invariant-loop-slot : goal.invariant-loop-slot
invariant-loop-slot l = l.documents ≡ count_by has_document (take l.slot-index l.slots)

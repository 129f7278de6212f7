use Rattle.std.proofs.Common.{◌≡◌, take}
use Rattle.entry_rows.proofs.copies.slots_copied.Given as goal

-- the slots so far are copied
abbrev pub invariant-loop-slot : goal.invariant-loop-slot
invariant-loop-slot l = l.copies.items ≡ take l.slot-index l.slots

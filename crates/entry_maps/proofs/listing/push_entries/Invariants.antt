use Rattle.std.proofs.Common.{◌≡◌, ◌++◌, take}
use Rattle.entry_maps.specs.Entries.{by_id}
use Rattle.entry_maps.specs.Slots.{pairs}
use Rattle.entry_maps.proofs.listing.push_entries.Given as goal

-- the entries of the slots so far are added
abbrev pub invariant-loop-slot : goal.invariant-loop-slot
invariant-loop-slot l = by_id l.entries.items ≡ by_id l.fn.entries.items ++ pairs (take l.slot-index l.row)

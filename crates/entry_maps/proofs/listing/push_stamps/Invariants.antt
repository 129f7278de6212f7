use Rattle.std.proofs.Common.{◌≡◌, ◌++◌, map, take}
use Rattle.entry_maps.proofs.listing.push_stamps.Given as goal

-- the stamps of the slots so far are added
abbrev pub invariant-loop-slot : goal.invariant-loop-slot
invariant-loop-slot l = l.stamps.items ≡ l.fn.stamps.items ++ map (λ s. s.entry.stamp) (take l.slot-index l.row)

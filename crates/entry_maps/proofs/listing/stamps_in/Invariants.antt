use Rattle.std.proofs.Common.{◌≡◌, map, take}
use Rattle.std.specs.List.{flat_map}
use Rattle.entry_maps.proofs.listing.stamps_in.Given as goal

-- the stamps of the rows so far
abbrev pub invariant-loop-row : goal.invariant-loop-row
invariant-loop-row l = l.stamps.items ≡ map (λ s. s.entry.stamp) (flat_map (λ r. r.items) (take l.row-index l.rows))

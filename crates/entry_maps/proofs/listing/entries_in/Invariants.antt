use Rattle.std.proofs.Common.{◌≡◌, take}
use Rattle.std.specs.List.{flat_map}
use Rattle.entry_maps.specs.Entries.{by_id}
use Rattle.entry_maps.specs.Slots.{pairs}
use Rattle.entry_maps.proofs.listing.entries_in.Given as goal

-- the entries of the rows so far
abbrev pub invariant-loop-row : goal.invariant-loop-row
invariant-loop-row l = by_id l.entries.items ≡ pairs (flat_map (λ r. r.items) (take l.row-index l.rows))

use Rattle.std.proofs.Common.{◌-◌, ◌≤◌, length}
use Rattle.std.specs.List.{AllWithin}
use Rattle.entry_rows.specs.Chunks.{flat, place, IsSeat}
use Rattle.entry_maps.specs.Kept.{kept_entries}
use Rattle.entry_maps.proofs.NewerLaws.{IsOld}
use Rattle.entry_maps.proofs.stored.Stored.has_newer.Given as goal

-- no entry so far is newer
abbrev pub invariant-loop-slot : goal.invariant-loop-slot
invariant-loop-slot l = IsSeat l.self.list l.at × (place l.self.list l.at ≤ length (flat l.self.list))
    × AllWithin (IsOld (kept_entries l.there)) (flat l.self.list) 0 (place l.self.list l.at)

abbrev pub decreases-loop-slot : goal.decreases-loop-slot
decreases-loop-slot l = length (flat l.self.list) - place l.self.list l.at

use Rattle.std.proofs.Common.{◌≡◌, ◌+◌, ◌-◌, ◌≤◌, length, take, drop, count_by}
use Rattle.std.specs.List.{AllWithin}
use Rattle.entry_rows.specs.Chunks.{flat, place, IsSeat}
use Rattle.entry_rows.specs.Slots.{has_document}
use Rattle.entry_maps.proofs.stored.Stored.run.Given as goal

-- the slots from the first one up to the seat are counted, and none lies past the last path
abbrev pub invariant-loop-slot : goal.invariant-loop-slot
invariant-loop-slot l = IsSeat l.self.list l.to × (place l.self.list l.to ≤ length (flat l.self.list))
    × (place l.self.list l.from + l.entries ≡ place l.self.list l.to)
    × (l.documents ≡ count_by has_document (take l.entries (drop (place l.self.list l.from) (flat l.self.list))))
    × AllWithin (λ s. s.path ≤ l.last) (flat l.self.list) (place l.self.list l.from) (place l.self.list l.to)

abbrev pub decreases-loop-slot : goal.decreases-loop-slot
decreases-loop-slot l = length (flat l.self.list) - place l.self.list l.to

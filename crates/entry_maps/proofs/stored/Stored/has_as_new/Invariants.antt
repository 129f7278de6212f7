use Rattle.std.proofs.Common.{◌+◌, ◌-◌, ◌≤◌, length}
use Rattle.std.specs.List.{AllWithin}
use Rattle.entry_rows.specs.Chunks.{flat, place, IsSeat}
use Rattle.entry_maps.specs.Merging.{HasAsNew}
use Rattle.entry_maps.proofs.stored.Stored.has_as_new.Given as goal

-- the other map's entries so far are here
abbrev pub invariant-loop-theirs : goal.invariant-loop-theirs
invariant-loop-theirs l = IsSeat l.self.list l.one × IsSeat l.other.list l.two
    × (place l.self.list l.one ≤ length (flat l.self.list)) × (place l.other.list l.two ≤ length (flat l.other.list))
    × AllWithin (HasAsNew (flat l.self.list)) (flat l.other.list) 0 (place l.other.list l.two)

abbrev pub decreases-loop-theirs : goal.decreases-loop-theirs
decreases-loop-theirs l = (length (flat l.self.list) - place l.self.list l.one) + (length (flat l.other.list) - place l.other.list l.two)

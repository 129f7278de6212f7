use Rattle.std.proofs.Common.{◌≡◌, ◌+◌, ◌-◌, ◌≤◌, ◌++◌, length, drop}
use Rattle.entry_rows.specs.Chunks.{flat, place, IsSeat}
use Rattle.entry_maps.specs.Merging.{merged}
use Rattle.entry_maps.specs.Slots.{IsCounted, slots_in}
use Rattle.entry_maps.proofs.stored.Stored.merged.Given as goal

-- what is taken, and behind it what the rest of both lists has together
abbrev pub invariant-loop-taken : goal.invariant-loop-taken
invariant-loop-taken l = IsCounted l.both × IsSeat l.self.list l.one × IsSeat l.other.list l.two
    × (place l.self.list l.one ≤ length (flat l.self.list)) × (place l.other.list l.two ≤ length (flat l.other.list))
    × (slots_in l.both ++ merged (drop (place l.self.list l.one) (flat l.self.list)) (drop (place l.other.list l.two) (flat l.other.list)) ≡ merged (flat l.self.list) (flat l.other.list))

abbrev pub decreases-loop-taken : goal.decreases-loop-taken
decreases-loop-taken l = (length (flat l.self.list) - place l.self.list l.one) + (length (flat l.other.list) - place l.other.list l.two)

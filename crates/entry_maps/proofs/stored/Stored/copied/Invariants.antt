use Rattle.std.proofs.Common.{◌≡◌, ◌+◌, ◌≤◌, ◌++◌, length, take, drop}
use Rattle.entry_rows.specs.Chunks.{place, IsSeat}
use Rattle.entry_maps.specs.Slots.{IsCounted, slots_in}
use Rattle.entry_maps.proofs.stored.Stored.copied.Given as goal

-- behind what is copied lies at the seat what is left of the run
abbrev pub invariant-loop-left : goal.invariant-loop-left
invariant-loop-left l = IsCounted l.part × IsSeat l.self.list l.seat × (place l.self.list l.seat + l.left ≤ length (slots_in l.self))
    × (slots_in l.part ++ take l.left (drop (place l.self.list l.seat) (slots_in l.self)) ≡ take l.fn.run.entries (drop (place l.self.list l.fn.run.from) (slots_in l.self)))

abbrev pub decreases-loop-left : goal.decreases-loop-left
decreases-loop-left l = l.left

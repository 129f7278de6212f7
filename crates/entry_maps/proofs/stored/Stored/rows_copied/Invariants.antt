use Rattle.std.proofs.Common.{◌≡◌, take, slice_range}
use Rattle.std.specs.List.{flat_map}
use Rattle.entry_maps.specs.Slots.{IsCounted, slots_in}
use Rattle.entry_maps.proofs.stored.Stored.rows_copied.Given as goal

-- the slots of the rows so far
abbrev pub invariant-loop-row : goal.invariant-loop-row
invariant-loop-row l = IsCounted l.part × (slots_in l.part ≡ flat_map (λ r. r.items) (take l.row-index (slice_range l.self.list.rows.items l.fn.rows.from l.fn.rows.to)))

-- The order of slots: by path, and by id among those of one path.
use Rattle.std.specs.Prelude.{◌≡◌, ℕ, Bool, List, nat_lt}
use Rattle.std.specs.Ordering.{nat_cmp, on, then_cmp, is_lt}
use Rattle.std.specs.declared.cmp.Ordering.{Ordering}
use Rattle.std.specs.declared.cmp.Ordering.TheVariants.{Less}
use Rattle.entry_rows.specs.declared.slots.Slot.{Slot}
use Rattle.documents.specs.EntryCodes.{id_cmp}

-- where a slot stands
abbrev pub mark : Slot → ℕ × List ℕ
mark s = (s.path, s.entry.id)

abbrev pub mark_cmp : ℕ × List ℕ → ℕ × List ℕ → Ordering
mark_cmp = then_cmp (on (λ m. m.0) nat_cmp) (on (λ m. m.1) id_cmp)

abbrev pub slot_cmp : Slot → Slot → Ordering
slot_cmp = on mark mark_cmp

-- the slot stands below a path with an id
abbrev pub is_below : ℕ → List ℕ → Slot → Bool
is_below path id s = is_lt (mark_cmp (mark s) (path, id))

-- the slot's path is lower than another one
abbrev pub is_low : ℕ → Slot → Bool
is_low path s = nat_lt s.path path

-- one slot stands below another
abbrev pub IsLower : Slot → Slot → Type 0
IsLower a b = slot_cmp a b ≡ Less

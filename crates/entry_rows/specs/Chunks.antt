-- Slots in rows: the rows joined are one list.
use Rattle.std.specs.Prelude.{◌≡◌, ℕ, ◌+◌, ◌<◌, ◌≤◌, Bool, true, false, List, [], ◌∷◌, length, take, drop, slice_range}
use Rattle.std.specs.List.{All, AllWithin, HoldsAt, flat_map}
use Rattle.entry_rows.specs.declared.slots.Slot.{Slot}
use Rattle.entry_rows.specs.declared.chunks.Chunks.{Chunks}
use Rattle.entry_rows.specs.declared.chunks.Spot.{Spot}
use Rattle.entry_rows.specs.declared.rows.Rows.{Rows}
use Rattle.entry_rows.specs.Order.{is_below}

-- all slots, in order
abbrev pub flat : Chunks → List Slot
flat c = flat_map (λ r. r.items) c.rows.items

-- the slots of the rows before this one
abbrev pub flat_before : Chunks → ℕ → List Slot
flat_before c row = flat_map (λ r. r.items) (take row c.rows.items)

-- the slots from this row on
abbrev pub flat_behind : Chunks → ℕ → List Slot
flat_behind c row = flat_map (λ r. r.items) (drop row c.rows.items)

-- the slots of some rows
abbrev pub flat_of : Chunks → Rows → List Slot
flat_of c rows = flat_map (λ r. r.items) (slice_range c.rows.items rows.from rows.to)

-- the place among all slots
abbrev pub place : Chunks → Spot → ℕ
place c spot = length (flat_before c spot.row) + spot.at

-- no row is empty
abbrev pub AreSome : Chunks → Type 0
AreSome c = All (λ r. 0 < length r.items) c.rows.items

-- there are such rows
pub record AreRows (c : Chunks) (rows : Rows) : Type 0 where
  pub rising : rows.from ≤ rows.to
  pub within : rows.to ≤ length c.rows.items

-- the spot lies within its row or behind the slots of that row, or behind all rows
pub record IsSpot (c : Chunks) (spot : Spot) : Type 0 where
  pub within : spot.row ≤ length c.rows.items
  pub last : spot.row ≡ length c.rows.items → spot.at ≡ 0
  pub row : spot.row < length c.rows.items → HoldsAt (λ r. spot.at ≤ length r.items) c.rows.items spot.row

-- the spot is that of a slot, or behind all rows
pub record IsSeat (c : Chunks) (spot : Spot) : Type 0 where
  pub within : spot.row ≤ length c.rows.items
  pub last : spot.row ≡ length c.rows.items → spot.at ≡ 0
  pub row : spot.row < length c.rows.items → HoldsAt (λ r. spot.at < length r.items) c.rows.items spot.row

-- the spot parts the slots below a path with an id from the others, and lies in a row where there is one
pub record IsPlaceFor (c : Chunks) (path : ℕ) (id : List ℕ) (spot : Spot) : Type 0 where
  pub stands : IsSpot c spot
  pub lies : 0 < length c.rows.items → spot.row < length c.rows.items
  pub within : place c spot ≤ length (flat c)
  pub before : AllWithin (λ s. is_below path id s ≡ true) (flat c) 0 (place c spot)
  pub from : AllWithin (λ s. is_below path id s ≡ false) (flat c) (place c spot) (length (flat c))

-- the row's first slot passes a test
abbrev pub begins : (Slot → Bool) → List Slot → Bool
begins test [] = false
begins test (s ∷ slots) = test s

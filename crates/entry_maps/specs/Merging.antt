-- What two rising lists of slots have together.
use Rattle.std.specs.Prelude.{◌≡◌, Bool, true, false, List, [], ◌∷◌, Option, None, Some, if◌then◌else◌}
use Rattle.std.specs.Ordering.{match_ordering}
use Rattle.std.specs.declared.cmp.Ordering.TheVariants.{Equal}
use Rattle.stamps.specs.Order.{is_before}
use Rattle.entry_rows.specs.declared.slots.Slot.{Slot}
use Rattle.entry_maps.specs.Entries.{is_newer}
use Rattle.entry_rows.specs.Order.{slot_cmp}
use Rattle.entry_maps.specs.Slots.{entry_in}

-- the newer of two slots of a document; of equal stamps the first
abbrev pub newer_slot : Slot → Slot → Slot
newer_slot a b = if is_before a.entry.stamp b.entry.stamp then b else a

-- a slot and those behind it, and the slots of another list
abbrev pub merged_from : Slot → List Slot → (List Slot → List Slot) → List Slot → List Slot
merged_from x xs rest [] = x ∷ xs
merged_from x xs rest (y ∷ ys) = match_ordering (slot_cmp x y) (x ∷ rest (y ∷ ys)) (newer_slot x y ∷ rest ys) (y ∷ merged_from x xs rest ys)

-- the slots of both lists in order, of one document the newer
unfoldable pub merged : List Slot → List Slot → List Slot
merged [] ys = ys
merged (x ∷ xs) ys = merged_from x xs (merged xs) ys

-- a slot to take next, and from which lists it is
abbrev pub Taken : Type 0
Taken = Slot × (Bool × Bool)

-- of the next slots of both lists the lower, of one document the newer
abbrev pub next_of : Option Slot → Option Slot → Option Taken
next_of None None = None
next_of (Some a) None = Some (a, (true, false))
next_of None (Some b) = Some (b, (false, true))
next_of (Some a) (Some b) = Some (match_ordering (slot_cmp a b) (a, (true, false)) (newer_slot a b, (true, true)) (b, (false, true)))

-- both slots are of one document, and the second is not the newer
pub record IsAsNew (a b : Slot) : Type 0 where
  pub same : slot_cmp a b ≡ Equal
  pub new : is_before a.entry.stamp b.entry.stamp ≡ false

-- the document of a slot has among the slots an entry of the same or a greater stamp
abbrev pub HasAsNew : List Slot → Slot → Type 0
HasAsNew slots s = is_newer s.entry (entry_in slots s.entry.id) ≡ false

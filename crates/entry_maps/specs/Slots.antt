-- Slots: entries in the order of the paths of their documents' keys, and of their ids where paths are one.
use Rattle.std.specs.Prelude.{◌≡◌, ℕ, ◌<◌, ◌≤◌, ◌^◌, Bool, List, [], ◌∷◌, map, Option, None, length, slice_index_or}
use Rattle.std.specs.List.{All, count_by}
use Rattle.std.specs.List.Sorted.{IsStrictlySortedBy}
use Rattle.std.specs.FinMap as fin
use Rattle.bucket_ids.specs.Buckets.{Low}
use Rattle.bucket_ids.specs.Paths.{path}
use Rattle.global_ids.specs.Keys.{key_of}
use Rattle.documents.specs.declared.entry.Entry.{Entry}
use Rattle.entry_rows.specs.declared.slots.Slot.{Slot}
use Rattle.entry_maps.specs.declared.stored.Stored.{Stored}
use Rattle.entry_maps.specs.Entries.{in_bucket}
use Rattle.documents.specs.EntryCodes.{id_cmp}
use Rattle.entry_maps.specs.EntryCodes.{Entries}
use Rattle.entry_rows.specs.Order.{slot_cmp}
use Rattle.entry_rows.specs.Chunks.{flat, AreSome}
use Rattle.entry_rows.specs.Slots.{has_document}

-- each slot's id with its entry
abbrev pub pairs : List Slot → List (List ℕ × Entry)
pairs slots = map (λ s. (s.entry.id, s.entry)) slots

-- the map of the slots
abbrev pub entries_of : List Slot → Entries
entries_of slots = fin.from_entries (pairs slots)

-- the entry of a document among the slots
abbrev pub entry_in : List Slot → List ℕ → Option Entry
entry_in slots id = fin.find id_cmp id (pairs slots)

-- no document has two slots
abbrev pub Apart : List Slot → Type 0
Apart [] = Unit {0}
Apart (s ∷ slots) = (entry_in slots s.entry.id ≡ None) × Apart slots

-- the path of a document's key
abbrev pub path_by : List ℕ → ℕ
path_by id = path (key_of id)

-- a slot stands at the path of its document's key
abbrev pub IsPlaced : Slot → Type 0
IsPlaced s = s.path ≡ path_by s.entry.id

-- each slot at its place, one slot a document
pub record IsKept (slots : List Slot) : Type 0 where
  pub placed : All IsPlaced slots
  pub rising : IsStrictlySortedBy slot_cmp slots

-- the key of the slot's document lies in a bucket
abbrev pub lies_in : Low → Slot → Bool
lies_in bucket s = in_bucket bucket s.entry.id

-- the slot at a place is the document's
pub record IsSlotOf (slots : List Slot) (id : List ℕ) (at : ℕ) : Type 0 where
  pub within : at < length slots
  pub document : (d : Slot) → (slice_index_or slots at d).entry.id ≡ id

-- the slots of all rows
abbrev pub slots_in : Stored → List Slot
slots_in m = flat m.list

-- no row is empty, and the slots and their documents are counted
pub record IsCounted (m : Stored) : Type 0 where
  pub some : AreSome m.list
  pub many : m.entries ≡ length (slots_in m)
  pub few : m.entries ≤ 2 ^ 62
  pub documents : m.documents ≡ count_by has_document (slots_in m)

-- the slots are kept and counted
pub record IsStored (m : Stored) : Type 0 where
  pub kept : IsKept (slots_in m)
  pub counted : IsCounted m

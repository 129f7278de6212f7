-- What each call makes of a node's three parts, and of the place of each document.
use Rattle.std.specs.Prelude.{◌≡◌, ◌==◌, ◌&&◌, ℕ, Bool, true, false, not, List, Option, None, Some, is_some, Result, Ok, Err, if◌then◌else◌}
use Rattle.std.specs.FinMap as fin
use Rattle.value_lists.specs.declared.no_memory.NoMemory.{NoMemory}
use Rattle.std.specs.Str.{bytes_eq}
use Rattle.bucket_ids.specs.Buckets.{Low}
use Rattle.stamps.specs.declared.stamp.Stamp.{Stamp}
use Rattle.doc_types.specs.SchemaCodes.{Types}
use Rattle.documents.specs.Fields.{Contents}
use Rattle.documents.specs.declared.entry.Entry.{Entry}
use Rattle.entry_maps.specs.Entries.{is_newer, in_bucket}
use Rattle.entry_maps.specs.EntryCodes.{Entries}
use Rattle.entry_maps.specs.Joins.{joined}
use Rattle.document_rows.specs.Rows.{Rows, is_of, has_row, without, taken_into}
use Rattle.document_rows.specs.Reading.{row_at}
use Rattle.node_rows.specs.TypedRows.{TypedRows, with_rows, without_in}
use Rattle.sub_databases.specs.Parts.{Parts, entry_place, place_in}
use Rattle.sub_databases.specs.declared.place.Place.{Place}
use Rattle.sub_databases.specs.declared.place.Place.TheVariants.{Ready, NotReady, Nowhere}

abbrev pub with_both : Entries → Rows → Parts → Parts
with_both m rows p = record { types = p.types; entries = m; rows = rows }

-- ---- an entry comes

-- the ready part has the entry's document where it comes ready, and else none of its id
abbrev pub rows_after : Types → Bool → Rows → Entry → Rows
rows_after types true rows e = taken_into types rows e
rows_after types false rows e = without e.id rows

-- a newer entry is kept, and its document in the ready part or not; or nothing changes
abbrev pub IsTaken : Entry → Bool → Entries → TypedRows → Result (Unit {0}) NoMemory → Entries → TypedRows → Type 0
IsTaken e ready m t (Ok _) n u = (n ≡ fin.insert m e.id e) × (u ≡ with_rows (rows_after t.types ready t.rows e) t)
IsTaken e ready m t (Err _) n u = (n ≡ m) × (u ≡ t)

-- a newer entry is kept, and its mark decides; one that isn't newer changes nothing
abbrev pub after_take : Entry → Bool → Parts → Parts
after_take e ready p = if is_newer e (fin.get p.entries e.id) then with_both (fin.insert p.entries e.id e) (rows_after p.types ready p.rows e) p else p

-- a newer entry's document is where its body and its mark say, and every other document where it was
abbrev pub place_after : Entry → Bool → Parts → List ℕ → Place
place_after e ready p id = if bytes_eq e.id id && is_newer e (fin.get p.entries e.id) then entry_place id (Some e) ready else place_in p id

-- ---- a map of entries comes

-- an entry comes, and is newer than what was there
abbrev pub is_fresh : Option Entry → Option Entry → Bool
is_fresh None there = false
is_fresh (Some e) there = is_newer e there

-- of each document the newer entry is kept; a document whose entry came is where that and the mark say, and every other
-- one where it was
pub record Unites (es : Entries) (ready : Bool) (old new : Parts) : Type 0 where
  pub types : new.types ≡ old.types
  pub entries : new.entries ≡ joined old.entries es
  pub places : (id : List ℕ) → place_in new id
      ≡ (if is_fresh (fin.get es id) (fin.get old.entries id) then entry_place id (fin.get es id) ready else place_in old id)

-- ---- a bucket becomes ready

abbrev pub made_ready : Bool → Place → Place
made_ready true NotReady = Ready
made_ready _ place = place

-- an entry has a document of its id, and that isn't ready
abbrev pub is_waiting : Rows → Entry → Bool
is_waiting rows e = is_of e.id e.body && not (has_row e.id rows)

-- the documents of the bucket that weren't ready are; those that were keep their local ids, and entries stay
pub record MakesReady (b : Low) (old new : Parts) : Type 0 where
  pub types : new.types ≡ old.types
  pub entries : new.entries ≡ old.entries
  pub places : (id : List ℕ) → place_in new id ≡ made_ready (in_bucket b id) (place_in old id)
  pub kept : (n : ℕ) (d : Contents) → row_at old.rows n ≡ Some d → row_at new.rows n ≡ Some d

-- ---- a bucket, or one remove, is dropped

-- entries and rows of the bucket go
abbrev pub after_drop : Low → Parts → Parts
after_drop b p = with_both (fin.retain_keys p.entries (λ id. not (in_bucket b id))) (without_in b p.rows) p

abbrev pub place_dropped : Bool → Place → Place
place_dropped true place = Nowhere
place_dropped false place = place

-- a remove of this stamp
abbrev pub is_remove_of : Stamp → Option Entry → Bool
is_remove_of stamp None = false
is_remove_of stamp (Some e) = not (is_some e.body) && ((e.stamp.version == stamp.version) && (e.stamp.count == stamp.count))

abbrev pub after_forget : List ℕ → Stamp → Parts → Parts
after_forget id stamp p = if is_remove_of stamp (fin.get p.entries id) then with_both (fin.remove p.entries id) p.rows p else p

-- the document of a remove that goes is nowhere, and every other one where it was
abbrev pub place_forgotten : List ℕ → Stamp → Parts → List ℕ → Place
place_forgotten id stamp p q = if bytes_eq id q && is_remove_of stamp (fin.get p.entries id) then Nowhere else place_in p q

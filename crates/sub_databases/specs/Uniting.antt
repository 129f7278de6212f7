-- What a map of entries that comes leaves of the entries and of the ready part.
use Rattle.std.specs.Prelude.{◌≡◌, ◌&&◌, ℕ, Bool, List, None, is_some, fold, filter, Result, Ok, Err, if◌then◌else◌}
use Rattle.std.specs.FinMap as fin
use Rattle.value_lists.specs.declared.no_memory.NoMemory.{NoMemory}
use Rattle.documents.specs.declared.entry.Entry.{Entry}
use Rattle.entry_maps.specs.EntryCodes.{Entries}
use Rattle.entry_maps.specs.Entries.{is_newer, by_id, AreSingle}
use Rattle.entry_maps.specs.Joins.{joined}
use Rattle.document_rows.specs.Rows.{Rows, has_row, document_of}
use Rattle.node_rows.specs.TypedRows.{TypedRows}
use Rattle.view_changes.specs.Shown.{shown}
use Rattle.sub_databases.specs.Changes.{is_fresh}

-- the list has a map's entries, each once
pub record IsListOf (es : Entries) (list : List Entry) : Type 0 where
  pub whole : fin.from_entries (by_id list) ≡ es
  pub single : AreSingle (by_id list)

-- an entry is newer than what a map has of its document
abbrev pub does_come : Entries → Entry → Bool
does_come m e = is_newer e (fin.get m e.id)

-- and its document is ready
abbrev pub does_oust : Entries → Rows → Entry → Bool
does_oust m rows e = has_row e.id rows && does_come m e

-- the list has those of a map's entries that are newer than what another map has
pub record AreComing (es m : Entries) (list : List Entry) : Type 0 where
  pub all : List Entry
  pub listed : IsListOf es all
  pub coming : list ≡ filter (does_come m) all

abbrev pub is_known : Entries → Entry → Bool
is_known m e = is_some (fin.get m e.id)

-- a map without the entries of some documents
abbrev pub without_all : List Entry → Entries → Entries
without_all es m = fold (λ n e. fin.remove n e.id) m es

-- entries are joined, and the ready part has of each document that came what the entry and the mark say
pub record IsUnited (es : Entries) (ready : Bool) (m : Entries) (t : TypedRows) (n : Entries) (u : TypedRows) : Type 0 where
  pub types : u.types ≡ t.types
  pub entries : n ≡ joined m es
  pub documents : (id : List ℕ) → document_of id u.rows
      ≡ (if is_fresh (fin.get es id) (fin.get m id) then (if ready then shown t.types id (fin.get es id) else None) else document_of id t.rows)

-- or nothing changes
abbrev pub MayUnite : Entries → Bool → Entries → TypedRows → Result (Unit {0}) NoMemory → Entries → TypedRows → Type 0
MayUnite es ready m t (Ok _) n u = IsUnited es ready m t n u
MayUnite es ready m t (Err _) n u = (n ≡ m) × (u ≡ t)

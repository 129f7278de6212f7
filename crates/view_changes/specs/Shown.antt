-- That a view shows what nodes keep.
use Rattle.std.specs.Prelude.{◌≡◌, ℕ, Bool, true, not, nat_lt, List, [], ◌∷◌, filter, Option, None, Some, if◌then◌else◌}
use Rattle.std.specs.List.{list_any}
use Rattle.std.specs.Str.{bytes_eq}
use Rattle.std.specs.FinMap as fin
use Rattle.bucket_ids.specs.Buckets.{Low, covers}
use Rattle.global_ids.specs.Keys.{key_of}
use Rattle.doc_types.specs.SchemaCodes.{Types}
use Rattle.documents.specs.Fields.{Contents}
use Rattle.documents.specs.declared.entry.Entry.{Entry}
use Rattle.entry_maps.specs.EntryCodes.{Entries}
use Rattle.document_rows.specs.Rows.{Rows, fitted, free_place, document_of}
use Rattle.view_changes.specs.Views.{NodeView, in_regions}

-- what an entry shows under an id: its document, where that has this id
abbrev pub body_shown : Types → List ℕ → Option Contents → Option Contents
body_shown types id None = None
body_shown types id (Some d) = if bytes_eq d.id id then Some (fitted types d) else None

abbrev pub shown : Types → List ℕ → Option Entry → Option Contents
shown types id None = None
shown types id (Some e) = body_shown types id e.body

-- what a node keeps that a view shows: its version, its active regions, the newest entries
pub record Keeping : Type 0 where
  pub version : ℕ
  pub regions : List Low
  pub entries : Entries

-- the view shows the node's version and regions, and of the documents there what its entries have
pub record ShowsNode (types : Types) (k : Keeping) (stopped : Bool) (n : NodeView) : Type 0 where
  pub version_is : n.version ≡ k.version
  pub stopped_is : n.stopped ≡ stopped
  pub regions_are : n.regions ≡ k.regions
  pub documents_are : (id : List ℕ) → document_of id n.rows ≡ (if in_regions k.regions (key_of id) then shown types id (fin.get k.entries id) else None)

-- a place below 2^32 - 1 is free
abbrev pub HasRoom : Rows → Type 0
HasRoom rows = nat_lt (free_place rows) 4294967295 ≡ true

-- each entry stands at its document
abbrev pub AreOwn : Entries → Type 0
AreOwn m = (id : List ℕ) (e : Entry) → fin.get m id ≡ Some e → e.id ≡ id

-- ---- what a node does with it

abbrev pub adopt : ℕ → Keeping → Keeping
adopt w k = if nat_lt k.version w then record { version = w; regions = []; entries = k.entries } else k

abbrev pub keep : Entry → Keeping → Keeping
keep e k = record { version = k.version; regions = k.regions; entries = fin.insert k.entries e.id e }

-- a region more: those inside it are dropped, and inside a region nothing changes
abbrev pub with_region : Low → List Low → List Low
with_region b rs = if list_any (λ r. covers r b) rs then rs else b ∷ filter (λ r. not (covers b r)) rs

abbrev pub activate : Low → Keeping → Keeping
activate b k = record { version = k.version; regions = with_region b k.regions; entries = k.entries }

-- A node's three parts in one lane: the documents that are ready, those that aren't, and the removes.
use Rattle.std.specs.Prelude.{◌≡◌, ℕ, Bool, true, false, List, [], Option, None, Some, refl}
use Rattle.std.specs.Coded.{Coded, code_by, coded×}
use Rattle.std.specs.FinMap as fin
use Rattle.doc_types.specs.SchemaCodes.{Types, types_code}
use Rattle.documents.specs.Fields.{Contents}
use Rattle.documents.specs.declared.entry.Entry.{Entry}
use Rattle.entry_maps.specs.EntryCodes.{Entries, entries_code}
use Rattle.document_rows.specs.Rows.{Rows, is_of, has_row, document_of}
use Rattle.node_rows.specs.TypedRows.{rows_code}
use Rattle.view_changes.specs.Shown.{shown}
use Rattle.sub_databases.specs.declared.place.Place.{Place}
use Rattle.sub_databases.specs.declared.place.Place.TheVariants.{Ready, NotReady, Removed, Nowhere}

-- the schema's types, the newest entries of all three parts, and the documents of the ready part by local id
pub record Parts : Type 0 where
  pub types : Types
  pub entries : Entries
  pub rows : Rows

abbrev pub parts_code : Coded Parts
parts_code = code_by (Types × (Entries × Rows)) (coded× types_code (coded× entries_code rows_code))
    (λ p. (p.types, (p.entries, p.rows))) (λ q. record { types = q.0; entries = q.1.0; rows = q.1.1 }) (λ _. refl)

abbrev pub no_parts : Types → Parts
no_parts types = record { types = types; entries = fin.empty; rows = [] }

-- ---- where a document is

-- by whether its newest entry has a document of its id, and whether that is ready
abbrev pub body_place : Bool → Bool → Place
body_place false ready = Removed
body_place true true = Ready
body_place true false = NotReady

abbrev pub entry_place : List ℕ → Option Entry → Bool → Place
entry_place id None ready = Nowhere
entry_place id (Some e) ready = body_place (is_of id e.body) ready

-- in one part, or nowhere
abbrev pub place_in : Parts → List ℕ → Place
place_in p id = entry_place id (fin.get p.entries id) (has_row id p.rows)

-- ---- what the parts keep

-- a document of the ready part is what its newest entry shows
abbrev pub AreShown : Types → Entries → Rows → Type 0
AreShown types m rows = (id : List ℕ) (d : Contents) → document_of id rows ≡ Some d → shown types id (fin.get m id) ≡ Some d

-- the ready part has nothing else
pub record AreParts (p : Parts) : Type 0 where
  pub shown : AreShown p.types p.entries p.rows

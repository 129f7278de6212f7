-- What a view has, read off a journal alone: of each node its version, whether it is stopped, its region, and the
-- documents of its store that lie there.
use Rattle.std.specs.Prelude.{◌≡◌, ◌==◌, ◌<◌, ℕ, Bool, Contains, List, [], ◌∷◌, length, Option, None, Some, option_map, if◌then◌else◌}
use Rattle.doc_types.specs.SchemaCodes.{Types}
use Rattle.documents.specs.Fields.{Contents}
use Rattle.documents.specs.declared.entry.Entry.{Entry}
use Rattle.bucket_ids.specs.Buckets.{Low}
use Rattle.global_ids.specs.Keys.{key_of}
use Rattle.document_rows.specs.Rows.{fitted, document_of}
use Rattle.view_changes.specs.Views.{NodeView, View, in_regions, node_at}
use Rattle.view_changes.specs.Shown.{shown}
use Rattle.lane_journals.specs.Stamps.{Stamp}
use Rattle.lane_journals.specs.Buckets.{Id}
use Rattle.lane_journals.specs.Readers.{or_else, only_if, version, stopped, store}
use Rattle.lane_journals.specs.Meanings.{entry_at, history}
use Rattle.lane_journals.specs.declared.event.LaneEvent.{LaneEvent}
use Rattle.lane_journals.specs.declared.event.LaneEvent.TheVariants.{Wrote}
use Rattle.lane_keeping.specs.NodeKeeping.{regions}
use Rattle.lane_changes.specs.Changes.{changes_of}

-- ---- what is read

-- the entry that was written with the stamp is of the document
pub record IsWrittenAs (J : List LaneEvent) (id : Id) (s : Stamp) : Type 0 where
  pub entry : Entry
  pub written : entry_at s J ≡ Some entry
  pub id_is : entry.id ≡ id

abbrev pub entry_named : Option Stamp → List LaneEvent → Option Entry
entry_named None J = None
entry_named (Some s) J = entry_at s J

-- the entry of a document that a node holds
abbrev pub held_entry : ℕ → Id → List LaneEvent → Option Entry
held_entry n id J = entry_named (store n id (history J)) J

-- a node as a journal has it
pub record NodeRead : Type 0 where
  pub version : ℕ
  pub stopped : Bool
  pub regions : List Low
  pub document : Id → Option Contents

-- the node of a number; a remove is no document, and a document is seen as far as it fits the types
abbrev pub view_of : Types → List LaneEvent → ℕ → NodeRead
view_of types J n = record {
  version = version n (history J);
  stopped = stopped n (history J);
  regions = regions n (history J);
  document = λ id. if in_regions (regions n (history J)) (key_of id) then shown types id (held_entry n id J) else None;
}

-- the shortest prefix of the journal that has so many changes
abbrev pub prefix_with : ℕ → List LaneEvent → Option (List LaneEvent)
prefix_with g [] = only_if (0 == g) []
prefix_with g (e ∷ J) = or_else (prefix_with g J) (only_if (length (changes_of (e ∷ J)) == g) (e ∷ J))

-- the view of the shortest prefix that has so many changes
abbrev pub view_at : Types → ℕ → List LaneEvent → Option (ℕ → NodeRead)
view_at types g J = option_map (view_of types) (prefix_with g J)

-- ---- where the documents that were written are fit

abbrev pub body_in : Option Entry → Option Contents
body_in None = None
body_in (Some e) = e.body

-- each has the id of its entry, and only values of the kinds that the types give its fields
abbrev pub AreFit : Types → List Entry → Type 0
AreFit types es = (e : Entry) (d : Contents) → Contains es e → e.body ≡ Some d → (d.id ≡ e.id) × (fitted types d ≡ d)

-- ---- that a view has it

pub record HasRead (x : NodeRead) (n : NodeView) : Type 0 where
  pub version_is : n.version ≡ x.version
  pub stopped_is : n.stopped ≡ x.stopped
  pub regions_are : n.regions ≡ x.regions
  pub documents_are : (id : Id) → document_of id n.rows ≡ x.document id

-- there are 32 nodes, and each is what was read
pub record Shows (read : ℕ → NodeRead) (v : View) : Type 0 where
  pub many : length v.nodes ≡ 32
  pub nodes : (n : ℕ) → n < 32 → HasRead (read n) (node_at n v.nodes)

-- ---- how many entries there are

-- all that were written, newest first
abbrev pub written_entries : List LaneEvent → List Entry
written_entries [] = []
written_entries (Wrote l e ∷ J) = e ∷ written_entries J
written_entries (_ ∷ J) = written_entries J

-- each of them finds a local id, and these are below 2^32 - 1
abbrev pub FindRoom : List LaneEvent → Type 0
FindRoom J = length (written_entries J) < 4294967295

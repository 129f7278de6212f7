-- What a search under one version sees of some lanes, each at a prefix of its journal.
use Rattle.std.specs.Prelude.{◌≡◌, ◌≤◌, ℕ, Bool, true, false, List, [], ◌∷◌, Some, is_some, cond, Contains}
use Rattle.doc_types.specs.SchemaCodes.{Types}
use Rattle.bucket_ids.specs.Buckets.{IsBucket, has_key}
use Rattle.document_rows.specs.Rows.{document_of}
use Rattle.view_changes.specs.Views.{node_at, view_after}
use Rattle.view_changes.specs.Opening.{opening}
use Rattle.view_changes.specs.Shown.{shown}
use Rattle.search_laws.specs.Searches.{Seen}
use Rattle.lane_journals.specs.Stamps.{Stamp, Le}
use Rattle.lane_journals.specs.Buckets.{Id, key_of}
use Rattle.lane_journals.specs.Readers.{version, stopped, store, Acked}
use Rattle.lane_journals.specs.Facts.{InRegion}
use Rattle.lane_journals.specs.Meanings.{history}
use Rattle.lane_journals.specs.Places.{Setting}
use Rattle.lane_journals.specs.KeptJournals.{IsLegal}
use Rattle.lane_journals.specs.declared.event.LaneEvent.{LaneEvent}
use Rattle.lane_changes.specs.Changes.{changes_of}
use Rattle.journal_views.specs.JournalViews.{IsWrittenAs, held_entry, FindRoom}

-- a lane with a prefix of its journal
pub record Front : Type 0 where
  pub setting : Setting
  pub journal : List LaneEvent

-- a lane's journal is legal, and so is each prefix of it
pub record IsFront (f : Front) : Type 0 where
  pub lane : IsBucket (f.setting).lane
  pub acks : 1 ≤ (f.setting).acks
  pub legal : IsLegal f.setting f.journal
  pub room : FindRoom f.journal

-- no lane has the key
abbrev pub NoneHas : ℕ → List Front → Type 0
NoneHas key [] = Unit {0}
NoneHas key (f ∷ fs) = (has_key (f.setting).lane key ≡ false) × NoneHas key fs

-- lanes without a common key
abbrev pub AreFronts : List Front → Type 0
AreFronts [] = Unit {0}
AreFronts (f ∷ fs) = IsFront f × ((key : ℕ) → has_key (f.setting).lane key ≡ true → NoneHas key fs) × AreFronts fs

-- the view of the changes that the prefix gives
abbrev pub seen_at : Types → Front → Seen
seen_at types f = record { lane = (f.setting).lane; view = view_after (opening types) (changes_of f.journal) }

abbrev pub one_if : Bool → ℕ
one_if t = cond t 1 0

-- a node that runs, at the version, has the key in its region there, in one of the prefixes
pub record IsKeyRead (w key : ℕ) (fs : List Front) : Type 0 where
  pub front : Front
  pub among : Contains fs front
  pub node : ℕ
  pub version_is : version node (history front.journal) ≡ w
  pub runs : stopped node (history front.journal) ≡ false
  pub region : InRegion w node key (history front.journal)

-- a document is counted once or not at all, as it stands at a node that serves and is over its key: as the entry has it
-- that the node holds, where it holds one, which is no older than what was acknowledged, in any of the prefixes, under
-- that version or a smaller one
pub record IsCountedAs (types : Types) (w : ℕ) (id : Id) (fs : List Front) (times : ℕ) : Type 0 where
  pub front : Front
  pub among : Contains fs front
  pub node : ℕ
  pub version_is : version node (history front.journal) ≡ w
  pub runs : stopped node (history front.journal) ≡ false
  pub region : InRegion w node (key_of id) (history front.journal)
  -- what is seen there, and how often it is counted
  pub seen : document_of id (node_at node ((seen_at types front).view).nodes).rows ≡ shown types id (held_entry node id front.journal)
  pub counted : times ≡ one_if (is_some (shown types id (held_entry node id front.journal)))
  -- which operation left it
  pub left : (s : Stamp) → store node id (history front.journal) ≡ Some s → IsWrittenAs front.journal id s
  pub current : (f : Front) → Contains fs f → (v : ℕ) (s : Stamp) → Acked v id s (history f.journal) → v ≤ w
      → Le (Some s) (store node id (history front.journal))

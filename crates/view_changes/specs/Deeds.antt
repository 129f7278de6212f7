-- What a node does with an accepted message, as far as a view shows it, and which changes it tells.
use Rattle.std.specs.Prelude.{◌≡◌, ◌≢◌, ◌==◌, ◌&&◌, ◌<◌, ℕ, Bool, true, false, not, nat_lt, List, [], ◌∷◌, map, filter, length, Some, if◌then◌else◌}
use Rattle.std.specs.FinMap as fin
use Rattle.bucket_ids.specs.Buckets.{Low, IsBucket, has_key}
use Rattle.global_ids.specs.Keys.{key_of}
use Rattle.doc_types.specs.SchemaCodes.{Types}
use Rattle.documents.specs.declared.entry.Entry.{Entry}
use Rattle.entry_maps.specs.EntryCodes.{Entries}
use Rattle.entry_maps.specs.Entries.{is_newer, with_entry, in_bucket}
use Rattle.entry_maps.specs.Joins.{joined}
use Rattle.document_rows.specs.Rows.{Rows, taken_into}
use Rattle.view_changes.specs.Views.{View, in_regions, listed, is_fresh, node_at}
use Rattle.view_changes.specs.Kept.{IsActiveOver}
use Rattle.view_changes.specs.Shown.{Keeping, ShowsNode, AreOwn, HasRoom, activate}
use Rattle.view_changes.specs.declared.change.LaneChange.{LaneChange}
use Rattle.view_changes.specs.declared.change.LaneChange.TheVariants.{Adopt, Activate, Take}

-- the bodies that change entries or regions; Ask, Read, Split, Join and Ready change neither
pub data NodeDeed : Type 0 where
  Looks : NodeDeed
  Stores : Entry → NodeDeed
  Unites : Entries → NodeDeed
  Drops : Low → NodeDeed
  Activates : Low → NodeDeed

abbrev pub with_entries : Entries → Keeping → Keeping
with_entries m k = record { version = k.version; regions = k.regions; entries = m }

abbrev pub after_deed : NodeDeed → Keeping → Keeping
after_deed Looks k = k
after_deed (Stores e) k = with_entries (with_entry k.entries e) k
after_deed (Unites es) k = with_entries (joined k.entries es) k
after_deed (Drops b) k = with_entries (fin.retain_keys k.entries (λ id. not (in_bucket b id))) k
after_deed (Activates b) k = activate b k

-- the entry is kept, and seen: it is newer than what is there and lies in a region
abbrev pub is_seen : Keeping → Entry → Bool
is_seen k e = is_newer e (fin.get k.entries e.id) && in_regions k.regions (key_of e.id)

abbrev pub takes : ℕ → List Entry → List LaneChange
takes n es = map (λ e. Take n e) es

-- the changes of an accepted body, in order
abbrev pub changes_of : ℕ → Keeping → NodeDeed → List LaneChange
changes_of n k Looks = []
changes_of n k (Stores e) = takes n (if is_seen k e then e ∷ [] else [])
changes_of n k (Unites es) = takes n (filter (is_seen k) (listed es))
changes_of n k (Drops b) = []
changes_of n k (Activates b) = Activate n b (fin.retain_keys k.entries (in_bucket b)) ∷ []

-- and before them, of a greater version
abbrev pub adoption : ℕ → ℕ → Keeping → List LaneChange
adoption n w k = if nat_lt k.version w then Adopt n w ∷ [] else []

-- ---- what a step of a lane knows

-- each entry finds a free place as it comes
abbrev pub RoomAlong : Types → List Entry → Rows → Type 0
RoomAlong types [] rows = Unit {0}
RoomAlong types (e ∷ es) rows = HasRoom rows × RoomAlong types es (taken_into types rows e)

-- what is known of an accepted body: entries stand at their documents, no other node of the version is active in
-- the bucket of an Activate, and what a Delete takes lies in no region
abbrev pub MayDo : ℕ → Keeping → View → NodeDeed → Type 0
MayDo n k v Looks = Unit {0}
MayDo n k v (Stores e) = RoomAlong v.types (if is_seen k e then e ∷ [] else []) (node_at n v.nodes).rows
MayDo n k v (Unites es) = AreOwn es × RoomAlong v.types (filter (is_seen k) (listed es)) (node_at n v.nodes).rows
MayDo n k v (Drops b) = (id : List ℕ) (e : Entry) → fin.get k.entries id ≡ Some e → in_regions k.regions (key_of id) ≡ true → in_bucket b id ≡ false
MayDo n k v (Activates b) = AreOwn k.entries × IsBucket b × ((m key : ℕ) → m ≢ n → m < length v.nodes → IsActiveOver k.version key (node_at m v.nodes) → has_key b key ≡ true → ⊥)
    × RoomAlong v.types (filter (is_fresh b k.regions) (listed (fin.retain_keys k.entries (in_bucket b)))) (node_at n v.nodes).rows

-- ---- all nodes of a lane

-- the view shows of each node what it keeps, and whether it is stopped
abbrev pub ViewShows : (ℕ → Keeping) → (ℕ → Bool) → View → Type 0
ViewShows ks stopped v = (m : ℕ) → m < length v.nodes → ShowsNode v.types (ks m) (stopped m) (node_at m v.nodes)

-- the same but for one node
abbrev pub with_node : {A : Type 0} → ℕ → A → (ℕ → A) → ℕ → A
with_node n y f m = if m == n then y else f m

-- What the view of a lane has, and what a change makes of it.
use Rattle.std.specs.Prelude.{◌==◌, ◌+◌, ◌&&◌, ◌||◌, ℕ, zero, suc, Bool, true, false, not, min, nat_lt, List, [], ◌∷◌, filter, fold, if◌then◌else◌}
use Rattle.std.specs.List.{list_any}
use Rattle.std.specs.FinMap as fin
use Rattle.bucket_ids.specs.Buckets.{Low, has_key, covers}
use Rattle.global_ids.specs.Keys.{key_of}
use Rattle.doc_types.specs.SchemaCodes.{Types}
use Rattle.documents.specs.declared.entry.Entry.{Entry}
use Rattle.entry_maps.specs.EntryCodes.{Entries}
use Rattle.document_rows.specs.Rows.{Rows, after_body, taken_into}
use Rattle.view_changes.specs.declared.change.LaneChange.{LaneChange}
use Rattle.view_changes.specs.declared.change.LaneChange.TheVariants.{Adopt, Activate, Take, Stop, Start}

-- what is seen of a node: its version, whether it is stopped, its active regions, its documents there by local id
pub record NodeView : Type 0 where
  pub version : ℕ
  pub stopped : Bool
  pub regions : List Low
  pub rows : Rows

-- what is seen of a lane: the nodes from 0 on, and how many changes came
pub record View : Type 0 where
  pub types : Types
  pub nodes : List NodeView
  pub generation : ℕ

-- a node of which nothing was heard
abbrev pub new_node : NodeView
new_node = record { version = 0; stopped = false; regions = []; rows = [] }

-- ---- one node

-- the key lies in a region
abbrev pub in_regions : List Low → ℕ → Bool
in_regions rs key = list_any (λ r. has_key r key) rs

-- some key lies in both buckets
abbrev pub meets : Low → Low → Bool
meets a b = covers a b || covers b a

-- a greater version forgets the regions and their documents
abbrev pub adopted : ℕ → NodeView → NodeView
adopted w n = if nat_lt n.version w then record { version = w; stopped = n.stopped; regions = []; rows = [] } else n

abbrev pub stopped_as : Bool → NodeView → NodeView
stopped_as s n = record { version = n.version; stopped = s; regions = n.regions; rows = n.rows }

-- an entry in a region leaves its document there, or none
abbrev pub taken : Types → Entry → NodeView → NodeView
taken types e n = if in_regions n.regions (key_of e.id) then record { version = n.version; stopped = n.stopped; regions = n.regions; rows = after_body types e.id e.body n.rows } else n

-- the entries of a map, in the order of their ids
abbrev pub listed : Entries → List Entry
listed m = fin.values m

-- an entry lies in the bucket, and in no region so far
abbrev pub is_fresh : Low → List Low → Entry → Bool
is_fresh b rs e = has_key b (key_of e.id) && not (in_regions rs (key_of e.id))

-- the rows with the entries that no region had
abbrev pub rows_with : Types → Low → Entries → List Low → Rows → Rows
rows_with types b es rs rows = fold (taken_into types) rows (filter (is_fresh b rs) (listed es))

-- the bucket is a region, those inside it are dropped, and its entries come; inside a region nothing changes
abbrev pub activated : Types → Low → Entries → NodeView → NodeView
activated types b es n = if list_any (λ r. covers r b) n.regions then n else record { version = n.version; stopped = n.stopped; regions = b ∷ filter (λ r. not (covers b r)) n.regions; rows = rows_with types b es n.regions n.rows }

-- ---- all nodes

-- a change of the node with this number
abbrev pub at : ℕ → (NodeView → NodeView) → List NodeView → List NodeView
at n f [] = []
at zero f (x ∷ xs) = f x ∷ xs
at (suc n) f (x ∷ xs) = x ∷ at n f xs

abbrev pub node_at : ℕ → List NodeView → NodeView
node_at n [] = new_node
node_at zero (x ∷ xs) = x
node_at (suc n) (x ∷ xs) = node_at n xs

-- the node has this version and a region that meets the bucket
abbrev pub is_in_the_way : ℕ → Low → NodeView → Bool
is_in_the_way w b n = (n.version == w) && list_any (meets b) n.regions

-- another node than this one is in the way
abbrev pub is_barred : ℕ → ℕ → Low → List NodeView → Bool
is_barred n w b [] = false
is_barred zero w b (x ∷ xs) = list_any (is_in_the_way w b) xs
is_barred (suc n) w b (x ∷ xs) = is_in_the_way w b x || is_barred n w b xs

-- a bucket that meets a region of another node at the version changes no node
abbrev pub nodes_after : Types → LaneChange → List NodeView → List NodeView
nodes_after types (Adopt n w) ns = at n (adopted w) ns
nodes_after types (Activate n b es) ns = if is_barred n (node_at n ns).version b ns then ns else at n (activated types b es) ns
nodes_after types (Take n e) ns = at n (taken types e) ns
nodes_after types (Stop n) ns = at n (stopped_as true) ns
nodes_after types (Start n) ns = at n (stopped_as false) ns

-- one more, up to 2^64 - 1
abbrev pub next_generation : ℕ → ℕ
next_generation g = min (g + 1) 18446744073709551615

abbrev pub changed : View → LaneChange → View
changed v c = record { types = v.types; nodes = nodes_after v.types c v.nodes; generation = next_generation v.generation }

-- the view after some changes
abbrev pub view_after : View → List LaneChange → View
view_after v cs = fold changed v cs

-- What a search under one version sees: the views of all lanes, each with what its nodes keep.
use Rattle.std.specs.Prelude.{◌≡◌, ◌⊎◌, ◌+◌, ◌++◌, ℕ, true, false, cond, List, [], ◌∷◌}
use Rattle.bucket_ids.specs.Buckets.{Low, has_key}
use Rattle.document_rows.specs.Rows.{Rows, is_of}
use Rattle.view_changes.specs.Views.{NodeView, View, in_regions}
use Rattle.view_changes.specs.Serving.{serves, node_regions}
use Rattle.view_changes.specs.Kept.{IsView}
use Rattle.coverage.specs.Covering.{measure_of}

-- the view of a lane, in the lane's bucket
pub record Seen : Type 0 where
  pub lane : Low
  pub view : View

-- ---- what is counted

-- how often a document stands in some rows
abbrev pub places : List ℕ → Rows → ℕ
places id [] = 0
places id (r ∷ rows) = cond (is_of id r) 1 0 + places id rows

-- and at the nodes that serve
abbrev pub node_places : ℕ → List ℕ → List NodeView → ℕ
node_places w id [] = 0
node_places w id (n ∷ ns) = cond (serves w n) (places id n.rows) 0 + node_places w id ns

-- and in all lanes
abbrev pub times_counted : ℕ → List ℕ → List Seen → ℕ
times_counted w id [] = 0
times_counted w id (l ∷ ls) = node_places w id (l.view).nodes + times_counted w id ls

-- ---- what is covered

-- the regions of the nodes that serve
abbrev pub serving_regions : ℕ → List Seen → List Low
serving_regions w [] = []
serving_regions w (l ∷ ls) = node_regions w (l.view).nodes ++ serving_regions w ls

-- the sum of their measures
abbrev pub covered : ℕ → List Seen → ℕ
covered w ls = measure_of (serving_regions w ls)

-- ---- lanes

-- each region of a lane's nodes has keys of the lane alone
abbrev pub LieIn : Low → List NodeView → Type 0
LieIn lane [] = Unit {0}
LieIn lane (n ∷ ns) = ((key : ℕ) → in_regions n.regions key ≡ true → has_key lane key ≡ true) × LieIn lane ns

-- the lanes have no common key
abbrev pub NoneHas : ℕ → List Seen → Type 0
NoneHas key [] = Unit {0}
NoneHas key (l ∷ ls) = (has_key l.lane key ≡ false) × NoneHas key ls

abbrev pub AreLanes : List Seen → Type 0
AreLanes [] = Unit {0}
AreLanes (l ∷ ls) = IsView l.view × LieIn l.lane (l.view).nodes × ((key : ℕ) → has_key l.lane key ≡ true → NoneHas key ls) × AreLanes ls

-- a node that serves has the key in a region, and P holds of it
abbrev pub SomeNode : ℕ → ℕ → (NodeView → Type 0) → List NodeView → Type 0
SomeNode w key P [] = ⊥
SomeNode w key P (n ∷ ns) = ((serves w n ≡ true) × (in_regions n.regions key ≡ true) × P n) ⊎ SomeNode w key P ns

-- the same of all lanes
abbrev pub SomeSeen : ℕ → ℕ → (NodeView → Type 0) → List Seen → Type 0
SomeSeen w key P [] = ⊥
SomeSeen w key P (l ∷ ls) = SomeNode w key P (l.view).nodes ⊎ SomeSeen w key P ls

-- what holds of each node that serves
abbrev pub EachNode : ℕ → (NodeView → Type 0) → List NodeView → Type 0
EachNode w P [] = Unit {0}
EachNode w P (n ∷ ns) = (serves w n ≡ true → P n) × EachNode w P ns

abbrev pub EachSeen : ℕ → (NodeView → Type 0) → List Seen → Type 0
EachSeen w P [] = Unit {0}
EachSeen w P (l ∷ ls) = EachNode w P (l.view).nodes × EachSeen w P ls

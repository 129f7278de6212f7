-- What every view keeps.
use Rattle.std.specs.Prelude.{◌≡◌, ◌<◌, ℕ, true, false, List, [], ◌∷◌, length, None, Some}
use Rattle.bucket_ids.specs.Buckets.{Low, IsBucket, has_key}
use Rattle.global_ids.specs.Keys.{key_of}
use Rattle.view_changes.specs.declared.change.LaneChange.{LaneChange}
use Rattle.view_changes.specs.declared.change.LaneChange.TheVariants.{Activate}
use Rattle.document_rows.specs.Rows.{Rows, AreDistinct}
use Rattle.view_changes.specs.Views.{NodeView, View, in_regions, node_at}

-- each document lies in a region
abbrev pub AreInside : List Low → Rows → Type 0
AreInside rs [] = Unit {0}
AreInside rs (None ∷ rows) = AreInside rs rows
AreInside rs (Some d ∷ rows) = (in_regions rs (key_of d.id) ≡ true) × AreInside rs rows

-- the regions are buckets without a common key
abbrev pub AreParted : List Low → Type 0
AreParted [] = Unit {0}
AreParted (r ∷ rs) = IsBucket r × ((key : ℕ) → has_key r key ≡ true → in_regions rs key ≡ false) × AreParted rs

-- a node's regions have no common key, and its documents lie there, each once
pub record IsNode (n : NodeView) : Type 0 where
  pub regions : AreParted n.regions
  pub inside : AreInside n.regions n.rows
  pub distinct : AreDistinct n.rows

abbrev pub AreNodes : List NodeView → Type 0
AreNodes [] = Unit {0}
AreNodes (n ∷ ns) = IsNode n × AreNodes ns

-- a node of the version has a region with the key
abbrev pub IsActiveOver : ℕ → ℕ → NodeView → Type 0
IsActiveOver w key n = (n.version ≡ w) × (in_regions n.regions key ≡ true)

-- no key lies in the regions of two nodes at one version
abbrev pub AreNodesApart : List NodeView → Type 0
AreNodesApart ns = (w key n m : ℕ) → n < length ns → m < length ns → IsActiveOver w key (node_at n ns) → IsActiveOver w key (node_at m ns) → n ≡ m

-- there are 32 nodes; each document is there once, and no key is active at two nodes of one version
pub record IsView (v : View) : Type 0 where
  pub many : length v.nodes ≡ 32
  pub nodes : AreNodes v.nodes
  pub apart : AreNodesApart v.nodes

-- what a change names as a bucket is one
abbrev pub HasBucket : LaneChange → Type 0
HasBucket (Activate n b es) = IsBucket b
HasBucket _ = Unit {0}

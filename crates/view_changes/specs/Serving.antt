-- Which nodes a search reads, and which documents there.
use Rattle.std.specs.Prelude.{◌==◌, ◌&&◌, ◌++◌, ℕ, zero, suc, Bool, false, not, List, [], ◌∷◌, if◌then◌else◌}
use Rattle.bucket_ids.specs.Buckets.{Low}
use Rattle.document_rows.specs.Rows.{Rows}
use Rattle.coverage.specs.Covering.{measure_of}
use Rattle.view_changes.specs.Views.{NodeView, View, node_at}

-- the node is at the version, and isn't stopped
abbrev pub serves : ℕ → NodeView → Bool
serves w n = (n.version == w) && not n.stopped

-- the same of the node with a number; past the end there is none
abbrev pub serves_at : ℕ → ℕ → List NodeView → Bool
serves_at n w [] = false
serves_at zero w (x ∷ xs) = serves w x
serves_at (suc n) w (x ∷ xs) = serves_at n w xs

-- the regions of the nodes that serve
abbrev pub node_regions : ℕ → List NodeView → List Low
node_regions w [] = []
node_regions w (n ∷ ns) = (if serves w n then n.regions else []) ++ node_regions w ns

-- the sum of their measures
abbrev pub covered_at : ℕ → View → ℕ
covered_at w v = measure_of (node_regions w v.nodes)

-- the documents of the node with a number, by local id; past the end there are none
abbrev pub rows_of : ℕ → View → Rows
rows_of n v = (node_at n v.nodes).rows

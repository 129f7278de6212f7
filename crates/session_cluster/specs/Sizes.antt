-- How many entries a node's stores hold.
use Rattle.std.specs.Prelude.{◌≡◌, ℕ, ◌-◌, ◌^◌, List, [], ◌∷◌, min, sum_by}
use Rattle.lane_keeping.specs.Shown.{HasEntries}
use Rattle.session_cluster.specs.Lanes.{Journal}

-- each number is how many entries the node holds in a lane
abbrev pub AreSizes : ℕ → List Journal → List ℕ → Type 0
AreSizes node [] [] = Unit {0}
AreSizes node (J ∷ Js) (n ∷ ns) = HasEntries J node n × AreSizes node Js ns
AreSizes node _ _ = ⊥

-- all together, at most 2^64 - 1
pub record HasSize (node : ℕ) (Js : List Journal) (size : ℕ) : Type 0 where
  pub sizes : List ℕ
  pub are_sizes : AreSizes node Js sizes
  pub total : size ≡ min (sum_by (λ n. n) sizes) (2 ^ 64 - 1)

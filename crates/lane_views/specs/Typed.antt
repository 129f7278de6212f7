-- How the nodes of a view stand in its code: each with the types that its documents are of.
use Rattle.std.specs.Prelude.{◌≡◌, ℕ, zero, suc, List, [], ◌∷◌, map}
use Rattle.std.specs.List.{AllByRecursion}
use Rattle.doc_types.specs.SchemaCodes.{Types}
use Rattle.view_changes.specs.Views.{NodeView, View}
use Rattle.view_changes.specs.Kept.{IsView}

pub record TypedNode : Type 0 where
  pub types : Types
  pub node : NodeView

-- a change of what is seen of the node
abbrev pub step : (Types → NodeView → NodeView) → TypedNode → TypedNode
step f t = record { types = t.types; node = f t.types t.node }

-- a change of the node with this number
abbrev pub step_at : ℕ → (Types → NodeView → NodeView) → List TypedNode → List TypedNode
step_at n f [] = []
step_at zero f (t ∷ ts) = step f t ∷ ts
step_at (suc n) f (t ∷ ts) = t ∷ step_at n f ts

abbrev pub nodes_of : List TypedNode → List NodeView
nodes_of ts = map (λ t. t.node) ts

-- all documents are of these types
abbrev pub AreTyped : Types → List TypedNode → Type 0
AreTyped types ts = AllByRecursion (λ t. t.types ≡ types) ts

-- the view that they are
abbrev pub seen : Types → List TypedNode → ℕ → View
seen types ts g = record { types = types; nodes = nodes_of ts; generation = g }

pub record IsSound (types : Types) (ts : List TypedNode) (g : ℕ) : Type 0 where
  pub typed : AreTyped types ts
  pub view : IsView (seen types ts g)

-- so many nodes alike
unfoldable pub alike : ℕ → TypedNode → List TypedNode
alike zero t = []
alike (suc n) t = t ∷ alike n t

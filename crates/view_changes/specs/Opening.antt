-- The view of a lane of which nothing was heard.
use Rattle.std.specs.Prelude.{ℕ, zero, suc, List, [], ◌∷◌}
use Rattle.doc_types.specs.SchemaCodes.{Types}
use Rattle.view_changes.specs.Views.{NodeView, View, new_node}

-- so many nodes of which nothing was heard
unfoldable pub new_nodes : ℕ → List NodeView
new_nodes zero = []
new_nodes (suc n) = new_node ∷ new_nodes n

-- 32 of them, and no change so far
abbrev pub opening : Types → View
opening types = record { types = types; nodes = new_nodes 32; generation = 0 }

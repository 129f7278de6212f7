-- What a node shows that isn't there.
use Rattle.std.proofs.Common.{◌≡◌, Option, None, Some, sym, ap, ◌∙◌}
use Rattle.std.specs.FinMap as fin
use Rattle.node_model.specs.Nodes.{Node, new_node}
use Rattle.lane_keeping.specs.Shown.{node_or_new}

nothing-held : fin.len new_node.entries ≡ 0
nothing-held = fin.len-empty _ _

pub none-held : (o : Option Node) (x : Node) → o ≡ None → node_or_new o ≡ x → 0 ≡ fin.len x.entries
none-held None x e is = sym nothing-held ∙ ap (λ (y : Node). fin.len y.entries) is
none-held (Some y) x e is = let none : Some y ≡ None = e in cc

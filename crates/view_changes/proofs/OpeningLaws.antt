-- What the view of a lane is of which nothing was heard.
use Rattle.std.proofs.Common.{◌≡◌, ℕ, zero, suc, length, refl, sym, ap, subst}
use mathlib.Core.Bool.{true≢false}
use Rattle.doc_types.specs.SchemaCodes.{Types}
use Rattle.view_changes.specs.Views.{new_node, node_at}
use Rattle.view_changes.specs.Opening.{new_nodes, opening}
use Rattle.view_changes.specs.Kept.{AreNodes, IsActiveOver, IsView}

nodes-new : (n : ℕ) → AreNodes (new_nodes n)
unfolding new_nodes
nodes-new zero = tt
nodes-new (suc n) = (record { regions = tt; inside = tt; distinct = tt }, nodes-new n)

pub node-new : (m n : ℕ) → node_at m (new_nodes n) ≡ new_node
unfolding new_nodes
node-new m zero = refl
node-new zero (suc n) = refl
node-new (suc m) (suc n) = node-new m n

length-new : (n : ℕ) → length (new_nodes n) ≡ n
unfolding new_nodes
length-new zero = refl
length-new (suc n) = ap suc (length-new n)

no-region : (w key m n : ℕ) → IsActiveOver w key (node_at m (new_nodes n)) → ⊥
no-region w key m n h = let over : IsActiveOver w key new_node = subst (IsActiveOver w key) (node-new m n) h in true≢false (sym over.1)

pub opening-view : (types : Types) → IsView (opening types)
opening-view types = record { many = length-new 32; nodes = nodes-new 32; apart = λ w key n m hn hm a b. absurd (no-region w key n 32 a) }

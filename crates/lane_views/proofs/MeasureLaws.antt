-- What the nodes of a view cover, one after the other.
use Rattle.std.proofs.Common.{◌≡◌, ℕ, zero, suc, ◌+◌, ◌<◌, ◌++◌, Bool, true, false, cond, List, [], ◌∷◌, length, drop, get_or, sym, ap, ◌∙◌, add-one, arith}
use Rattle.coverage.specs.Covering.{measure_of}
use Rattle.view_changes.specs.Serving.{serves, node_regions}
use Rattle.view_changes.proofs.CoverLaws.{measure-append}
use Rattle.lane_views.specs.Typed.{TypedNode, nodes_of}

pub nodes-from : (w : ℕ) (ts : List TypedNode) (i : ℕ) (d : TypedNode) → i < length ts
    → measure_of (node_regions w (nodes_of (drop i ts))) ≡ cond (serves w (get_or ts i d).node) (measure_of ((get_or ts i d).node).regions) 0 + measure_of (node_regions w (nodes_of (drop (suc i) ts)))
nodes-from w [] i d h = absurd (omega arith)
nodes-from w (t ∷ ts) zero d h = by_test (serves w t.node)
  where
    by_test : (s : Bool) → measure_of (cond s (t.node).regions [] ++ node_regions w (nodes_of ts)) ≡ cond s (measure_of (t.node).regions) 0 + measure_of (node_regions w (nodes_of ts))
    by_test true = measure-append (t.node).regions (node_regions w (nodes_of ts))
    by_test false = omega arith
nodes-from w (t ∷ ts) (suc i) d h = nodes-from w ts i d (omega arith)

-- a sum of the first nodes with one more
pub node-counted : (w : ℕ) (ts : List TypedNode) (i : ℕ) (x : TypedNode) (sum total : ℕ) → i < length ts → x ≡ get_or ts i x → serves w x.node ≡ true
    → sum + measure_of (node_regions w (nodes_of (drop i ts))) ≡ total → (sum + measure_of (x.node).regions) + measure_of (node_regions w (nodes_of (drop (i + 1) ts))) ≡ total
node-counted w ts i x sum total h is yes_x e =
    let from = nodes-from w ts i x h in
    let here : ◌≡◌ {A = ℕ} (cond (serves w (get_or ts i x).node) (measure_of ((get_or ts i x).node).regions) 0) (measure_of (x.node).regions)
    = ap (λ (y : TypedNode). cond (serves w y.node) (measure_of (y.node).regions) 0) (sym is) ∙ ap (λ t. cond t (measure_of (x.node).regions) 0) yes_x in
    rw add-one (omega (arith, from, here, e))

pub node-skipped : (w : ℕ) (ts : List TypedNode) (i : ℕ) (x : TypedNode) (sum total : ℕ) → i < length ts → x ≡ get_or ts i x → serves w x.node ≡ false
    → sum + measure_of (node_regions w (nodes_of (drop i ts))) ≡ total → sum + measure_of (node_regions w (nodes_of (drop (i + 1) ts))) ≡ total
node-skipped w ts i x sum total h is no_x e =
    let from = nodes-from w ts i x h in
    let here : ◌≡◌ {A = ℕ} (cond (serves w (get_or ts i x).node) (measure_of ((get_or ts i x).node).regions) 0) 0
    = ap (λ (y : TypedNode). cond (serves w y.node) (measure_of (y.node).regions) 0) (sym is) ∙ ap (λ t. cond t (measure_of (x.node).regions) 0) no_x in
    rw add-one (omega (arith, from, here, e))

use Rattle.std.proofs.Common.{◌≡◌, ◌++◌, ◌∷◌, ◌∙◌, ℕ, zero, suc, List, [], length, refl, ap, arith, length-append}
use Rattle.node_model.specs.Nodes.{Node, new_node}
use Rattle.lane_keeping.specs.LaneKeeping.{node_in}
use Rattle.lane_states.proofs.parts.make_nodes.Goals as goal

-- a node that took no message counts as one that isn't there
one_more : (xs : List Node) (n : ℕ) → node_in (xs ++ new_node ∷ []) n ≡ node_in xs n
one_more [] zero = refl
one_more [] (suc n) = refl
one_more (x ∷ xs) zero = refl
one_more (x ∷ xs) (suc n) = one_more xs n

pub loop-alloc-preserved : goal.loop-alloc-preserved
loop-alloc-preserved c =
    let xs = c.loop-alloc.nodes.items in
    let grown = c.in_ok-push.ensures.items ∙ ap (λ x. xs ++ x ∷ []) c.in_ok-new.ensures in
    let many = ap length grown ∙ length-append xs (new_node ∷ []) in
    let more = c.loop-alloc.invariant.more in
    record {
      same = λ n. ap (λ ys. node_in ys n) grown ∙ one_more xs n ∙ c.loop-alloc.invariant.same n;
      more = omega (arith, many, more);
    }

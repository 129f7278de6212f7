use Rattle.std.proofs.Common.{arith, ap₂, ◌∙◌, sym, subst, ◌+◌, ◌≤◌, cond}
use Rattle.node_sets.proofs.Bits.{size_none, size_next, size_of_most, place_within, seen_few}
use Rattle.node_sets.proofs.node_set.NodeSet.at.Goals as goal

pub loop-self-init : goal.loop-self-init
loop-self-init c = (size_none c.args.self, omega arith, omega arith)

pub counted-seen-requires : goal.counted-seen-requires
counted-seen-requires c = omega (arith, c.loop-self.invariant.2, c.requires, size_of_most c.args.self)

pub loop-self-smaller : goal.loop-self-smaller
loop-self-smaller c =
    let so = c.loop-self.invariant in
    omega (arith, place_within c.args.self c.loop-self.seen c.loop-self.node c.args.index so.0 so.1 so.2 c.requires)

pub loop-self-preserved : goal.loop-self-preserved
loop-self-preserved c =
    let so = c.loop-self.invariant in
    let node = place_within c.args.self c.loop-self.seen c.loop-self.node c.args.index so.0 so.1 so.2 c.requires in (
      c.counted-seen.ensures.value ∙ ap₂ (λ n t. n + cond t 1 0) so.0 c.has-has.ensures ∙ sym (size_next c.args.self c.loop-self.node),
      omega (arith, node),
      subst (λ n. n ≤ c.args.index) (sym c.counted-seen.ensures.value) (seen_few c.has-has.result c.loop-self.seen c.args.index (sym c.if-is_place.ensures) so.2),
    )

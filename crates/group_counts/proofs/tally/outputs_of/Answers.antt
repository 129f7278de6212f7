use Rattle.std.proofs.Common.{inl, inr, sym, ap₂, ◌∙◌, ◌++◌, ◌∷◌, [], None, get_or, arith}
use Rattle.group_counts.proofs.FigureLaws.{outputs-step, outputs-end}
use Rattle.group_counts.proofs.tally.outputs_of.Goals.{then-loop-at-test+else-at-values, else-loop-at-test}
use Rattle.group_counts.proofs.tally.outputs_of.Goals as goal

pub loop-at-preserved : goal.loop-at-preserved
loop-at-preserved c =
    c.in_ok-push.ensures.items
    ∙ ap₂ (λ os k. os ++ (record { kind = k; value = get_or c.args.values.now c.loop-at.at None }) ∷ []) c.loop-at.invariant (c.in_ok-copy.ensures ∙ c.index-kinds-at.is)
    ∙ sym (outputs-step c.loop-at.at c.args.kinds.now c.args.values.now c.index-kinds-at.result None c.loop-at-test.true c.if-at-values.true)

pub returns : goal.returns
returns c = elim c.loop-at-test.branch [
  | then-loop-at-test+else-at-values w ↦ c.loop-at.invariant ∙ outputs-end c.loop-at.at c.args.kinds.now c.args.values.now (inr (omega arith))
  | else-loop-at-test w ↦ c.loop-at.invariant ∙ outputs-end c.loop-at.at c.args.kinds.now c.args.values.now (inl (omega arith))
]

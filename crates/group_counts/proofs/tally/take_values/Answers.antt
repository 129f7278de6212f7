use Rattle.std.proofs.Common.{◌≢◌, ◌+◌, ◌<◌, None, length, get_or, refl, inr, sym, ap, subst, ◌∙◌, arith}
use Rattle.std.proofs.lemmas.List.{get_or_default, length-set}
use Rattle.proof_basics.proofs.Lists.{set-other}
use Rattle.doc_types.specs.declared.outputs.OutputKind.TheVariants as output
use Rattle.group_counts.specs.Tallies.{IsSmall}
use Rattle.group_counts.specs.Figures.{figure_for, with_figure}
use Rattle.group_counts.proofs.FigureLaws.{small-all, small-at, small-set, take-step, take-end}
use Rattle.group_counts.proofs.SlotLaws.{figure-is}
use Rattle.group_counts.proofs.tally.take_values.Goals as goal

pub loop-at-init : goal.loop-at-init
loop-at-init c = (λ d f. refl, λ n h. small-all n c.args.values.now h, λ i l. refl, refl)

pub number_at-requires : goal.number_at-requires
number_at-requires c = omega (arith, c.requires.same, c.loop-at-test.true)

pub next_value-requires-clause-small : goal.next_value-requires-clause-small
next_value-requires-clause-small c =
    let less : c.loop-at.at < length c.args.values.now = omega (arith, c.if-at-values.true, c.loop-at.invariant.3) in
    subst (IsSmall 9223372036854775807) (sym (c.loop-at.invariant.2 c.loop-at.at (omega arith))) (small-at 9223372036854775807 c.loop-at.at c.args.values.now None less c.requires.small)

pub loop-at-preserved : goal.loop-at-preserved
loop-at-preserved c =
    let at = c.loop-at.at in
    let kinds = c.args.kinds.now in
    let vs = c.args.values.now in
    let now = c.loop-at.values in
    let k = c.index-kinds-at.result in
    let y = c.next_value.result in
    let less : at < length vs = omega (arith, c.if-at-values.true, c.loop-at.invariant.3) in (
      λ d f. take-step at kinds d vs now k y c.loop-at-test.true c.if-at-values.true (c.loop-at.invariant.0 d f) c.index-kinds-at.is
          (c.next_value.ensures.value
          ∙ ap (with_figure k (get_or now at None)) (c.number_at.ensures.value ∙ f at c.loop-at-test.true ∙ ap (λ x. figure_for x d) (get_or_default kinds at output.Count k c.loop-at-test.true ∙ sym c.index-kinds-at.is))
          ∙ figure-is k (get_or now at None) d),
      λ n a. small-set (n + 1) at now y (c.next_value.ensures.small n (subst (IsSmall n) (sym (c.loop-at.invariant.2 at (omega arith))) (small-at n at vs None less a))) (c.loop-at.invariant.1 n a),
      λ i l. (let other : i ≢ at = λ e. omega (arith, l, e) in set-other now at i y None other) ∙ c.loop-at.invariant.2 i (omega (arith, l)),
      length-set now at y ∙ c.loop-at.invariant.3,
    )

pub returns-else-at-values-clause-value : goal.returns-else-at-values-clause-value
returns-else-at-values-clause-value c = λ d f. take-end c.loop-at.at c.args.kinds.now d c.args.values.now c.loop-at.values (inr (omega arith)) (c.loop-at.invariant.0 d f)

use Rattle.std.proofs.Common.{◌≡◌, ◌<◌, ◌+◌, ◌++◌, ◌∷◌, [], ℕ, length, get_or, sym, ap, subst, ◌∙◌, arith}
use Rattle.std.proofs.lemmas.List.{get_or_default}
use Rattle.doc_types.specs.declared.outputs.OutputKind.TheVariants as output
use Rattle.group_counts.specs.Figures.{no_slot, HasColumn}
use Rattle.group_counts.proofs.FigureLaws.{length-more}
use Rattle.group_counts.proofs.SlotLaws.{each-pushed}
use Rattle.group_counts.proofs.slots.first_slots.Goals as goal

pub loop-at-preserved : goal.loop-at-preserved
loop-at-preserved g c =
    let kinds = c.args.kinds.now in
    let at = c.loop-at.at in
    let slots = c.loop-at.slots.items in
    let v = g.V.Lists.seen c.args.view.now in
    let name = c.args.type_name.now in
    let y = c.first_slot.result in
    let kind : c.index-kinds-at.result ≡ get_or kinds at output.Count = c.index-kinds-at.is ∙ get_or_default kinds at c.index-kinds-at.result output.Count c.loop-at-test.true in
    let long : length (slots ++ y ∷ []) ≡ length slots + 1 = length-more slots y in (
      ap length c.in_ok-push.ensures.items ∙ omega (arith, long, c.loop-at.invariant.0),
      subst (λ xs. (i : ℕ) → i < at + 1 → HasColumn name (get_or kinds i output.Count) v (get_or xs i no_slot)) (sym c.in_ok-push.ensures.items)
          (each-pushed (λ i slot. HasColumn name (get_or kinds i output.Count) v slot) slots y no_slot at c.loop-at.invariant.0 (subst (λ k. HasColumn name k v y) kind c.first_slot.ensures) c.loop-at.invariant.1),
    )

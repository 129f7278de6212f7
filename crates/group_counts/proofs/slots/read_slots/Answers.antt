use Rattle.std.proofs.Common.{◌≡◌, ◌<◌, length, get_or, sym, ap, subst, ◌∙◌, arith}
use Rattle.std.proofs.lemmas.List.{get_or_default, length-set}
use Rattle.doc_types.specs.declared.outputs.OutputKind.TheVariants as output
use Rattle.group_counts.specs.Figures.{no_slot, figure_for, HasColumn}
use Rattle.group_counts.proofs.SlotLaws.{each-set, each-more}
use Rattle.group_counts.proofs.slots.read_slots.Goals as goal

pub read_slot-requires : goal.read_slot-requires
read_slot-requires g c =
    let kinds = c.args.kinds.now in
    let at = c.loop-at.at in
    let slots = c.loop-at.slots in
    let less : at < length slots = omega (arith, c.loop-at-test.true, c.loop-at.invariant.0) in
    subst (HasColumn c.args.type_name.now c.index-kinds-at.result (g.V.Lists.seen c.args.view.now)) (get_or_default slots at no_slot c.index-slots-at.result less ∙ sym c.index-slots-at.is)
    (subst (λ k. HasColumn c.args.type_name.now k (g.V.Lists.seen c.args.view.now) (get_or c.loop-at.slots at no_slot))
    (get_or_default kinds at output.Count c.index-kinds-at.result c.loop-at-test.true ∙ sym c.index-kinds-at.is) (c.loop-at.invariant.1 at c.loop-at-test.true))

pub loop-at-preserved : goal.loop-at-preserved
loop-at-preserved g c =
    let kinds = c.args.kinds.now in
    let at = c.loop-at.at in
    let slots = c.loop-at.slots in
    let v = g.V.Lists.seen c.args.view.now in
    let name = c.args.type_name.now in
    let y = c.read_slot.result in
    let less : at < length slots = omega (arith, c.loop-at-test.true, c.loop-at.invariant.0) in
    let kind : c.index-kinds-at.result ≡ get_or kinds at output.Count = c.index-kinds-at.is ∙ get_or_default kinds at c.index-kinds-at.result output.Count c.loop-at-test.true in (
      length-set slots at y ∙ c.loop-at.invariant.0,
      each-set (λ i slot. HasColumn name (get_or kinds i output.Count) v slot) slots y no_slot (length kinds) at less (subst (λ k. HasColumn name k v y) kind c.read_slot.ensures.column) c.loop-at.invariant.1,
      λ d is. each-more (λ i slot. slot.number ≡ figure_for (get_or kinds i output.Count) d) slots y no_slot at less (c.read_slot.ensures.number d is ∙ ap (λ k. figure_for k d) kind) (c.loop-at.invariant.2 d is),
    )

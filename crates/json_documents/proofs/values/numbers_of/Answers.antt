use Rattle.std.proofs.Common.{◌≡◌, ◌∷◌, ◌++◌, [], ◌∙◌, sym, ap, Some, rules}
use Rattle.line_values.specs.View.{view}
use Rattle.json_documents.specs.Json.{whole}
use Rattle.json_documents.proofs.Items.{one_more, a_bad_one, all_found}
use Rattle.json_documents.proofs.values.numbers_of.Goals as goal

pub returns : goal.returns
returns c = ap Some c.of.ensures ∙ sym (all_found whole c.args.items.now c.loop-item.list.items c.loop-item.item-index c.loop-item-test.false c.loop-item.invariant)

pub returns-in-None : goal.returns-in-None
returns-in-None c =
    let none = ap (λ v. whole (view v)) (sym c.item-item.is) ∙ sym c.in-None.ensures in
    sym (a_bad_one whole c.args.items.now c.loop-item.list.items c.loop-item.item-index c.item-item.result c.loop-item-test.true none c.loop-item.invariant)

pub loop-item-preserved : goal.loop-item-preserved
loop-item-preserved c =
    let some = ap (λ v. whole (view v)) (sym c.item-item.is) ∙ sym c.in-Some.ensures in
    let pushed : c.push.new.self.items ≡ c.loop-item.list.items ++ c.in-Some.number ∷ [] = search rules in
    rw pushed (one_more whole c.args.items.now c.loop-item.list.items c.loop-item.item-index c.item-item.result c.in-Some.number c.loop-item-test.true some c.loop-item.invariant)

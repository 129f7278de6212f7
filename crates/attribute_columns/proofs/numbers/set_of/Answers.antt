use Rattle.std.proofs.Common.{◌≡◌, ◌<◌, ◌∙◌, sym, subst, cond, true, length, get_or, pos, arith, rules}
use mir.Val.{to_z, of_z, SFits}
use mir.Syntax.{w64}
use Rattle.std.proofs.lemmas.Int.{to_z-of_z}
use Rattle.std.specs.Ordering.{int_eq, int_cmp}
use Rattle.std.specs.BTreeSet.{contains}
use Rattle.std.proofs.lemmas.List.Folds.{list_any_more}
use Rattle.attribute_columns.proofs.NumberLaws.{set_more}
use Rattle.attribute_columns.proofs.numbers.set_of.Goals as goal

pub loop-number-preserved : goal.loop-number-preserved
loop-number-preserved c = λ q.
    let less : c.loop-number.number-index < length c.args.numbers.now = omega arith in
    let z = get_or c.args.numbers.now c.loop-number.number-index (pos 0) in
    let fits : SFits w64 z = search rules in
    let e : to_z w64 (of_z w64 z) ≡ z = to_z-of_z w64 z fits in
    let is : contains int_cmp c.insert.new.self q ≡ cond (int_eq z q) true (contains int_cmp c.loop-number.set q) =
    subst (λ n. contains int_cmp c.insert.new.self q ≡ cond (int_eq n q) true (contains int_cmp c.loop-number.set q)) e (c.in_ok-insert.ensures.updates.0 q) in
    set_more z q _ _ _ is (c.loop-number.invariant q)
    ∙ sym (list_any_more (int_eq q) c.args.numbers.now c.loop-number.number-index (pos 0) less)

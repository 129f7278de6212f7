use Rattle.std.proofs.Common.{◌≡◌, ◌<◌, ℤ, sym, ap, subst, ◌∙◌, cond, take, length, get_or, pos, arith, rules}
use mir.Val.{to_z, of_z, SFits}
use mir.Syntax.{w64}
use Rattle.std.proofs.lemmas.Int.{to_z-of_z}
use Rattle.std.specs.Ordering.{int_eq}
use Rattle.std.proofs.lemmas.List.Folds.{list_any_more}
use Rattle.local_ids.specs.Rising.{with_local}
use Rattle.attribute_columns.specs.Columns.{has_number}
use Rattle.attribute_columns.specs.Dictionary.{ids_at}
use Rattle.attribute_columns.proofs.ListLaws.{with_part_rises, step_with, undone, any_take}
use Rattle.attribute_columns.proofs.dictionary.add_all.Goals as goal

pub add_in-requires : goal.add_in-requires
add_in-requires c =
    let z = get_or c.args.numbers.now c.loop-at.at (pos 0) in
    let own = to_z w64 (of_z w64 z) in
    with_part_rises c.args.local (has_number own (take c.loop-at.at c.args.numbers.now)) (ids_at c.args.lists.now own) (ids_at c.loop-at.lists own) (c.requires.rising own) (c.loop-at.invariant.0 own)

pub remove_all-requires : goal.remove_all-requires
remove_all-requires c = λ q.
    with_part_rises c.args.local (has_number q (take c.loop-at.at c.args.numbers.now)) (ids_at c.args.lists.now q) (ids_at c.add_in.new.lists q) (c.requires.rising q) (c.in-Err.ensures.err q ∙ c.loop-at.invariant.0 q)

pub returns-in-Err-clause-err : goal.returns-in-Err-clause-err
returns-in-Err-clause-err c = λ q.
    undone c.args.local (has_number q (take c.loop-at.at c.args.numbers.now)) (ids_at c.args.lists.now q) (ids_at c.add_in.new.lists q) (ids_at c.remove_all.new.lists q)
    (c.requires.rising q) (λ t. c.requires.lack q (any_take (int_eq q) c.args.numbers.now c.loop-at.at t)) (c.in-Err.ensures.err q ∙ c.loop-at.invariant.0 q) (c.remove_all.ensures.ids q)

pub loop-at-preserved : goal.loop-at-preserved
loop-at-preserved c =
    let numbers = c.args.numbers.now in
    let at = c.loop-at.at in
    let x = c.args.local in
    let z = get_or numbers at (pos 0) in
    let fits : SFits w64 z = search rules in
    let e : to_z w64 (of_z w64 z) ≡ z = to_z-of_z w64 z fits in
    let less : at < length numbers = omega arith in
    let okay : (q : ℤ) → ids_at c.add_in.new.lists q ≡ cond (int_eq (to_z w64 (of_z w64 z)) q) (with_local x (ids_at c.loop-at.lists (to_z w64 (of_z w64 z)))) (ids_at c.loop-at.lists q) = c.in_default.ensures.ok in (
      λ q.
          step_with x z q (has_number q (take at numbers)) (ids_at c.loop-at.lists) (ids_at c.args.lists.now) (ids_at c.add_in.new.lists q) (c.requires.rising q)
          (subst (λ n. ids_at c.add_in.new.lists q ≡ cond (int_eq n q) (with_local x (ids_at c.loop-at.lists n)) (ids_at c.loop-at.lists q)) e (okay q))
          (c.loop-at.invariant.0 q)
          ∙ ap (λ b. cond b (with_local x (ids_at c.args.lists.now q)) (ids_at c.args.lists.now q)) (sym (list_any_more (int_eq q) numbers at (pos 0) less)),
      λ h. c.add_in.ensures.some (c.loop-at.invariant.1 h),
    )

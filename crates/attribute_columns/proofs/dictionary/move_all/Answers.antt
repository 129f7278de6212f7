use Rattle.std.proofs.Common.{◌≡◌, ◌<◌, sym, ap, subst, ◌∙◌, cond, take, length, get_or, pos, arith, rules}
use mir.Val.{to_z, of_z, SFits}
use mir.Syntax.{w64}
use Rattle.std.proofs.lemmas.Int.{to_z-of_z}
use Rattle.std.specs.Ordering.{int_eq}
use Rattle.std.proofs.lemmas.List.Folds.{list_any_more}
use Rattle.local_ids.specs.Rising.{moved_local}
use Rattle.attribute_columns.specs.Columns.{has_number}
use Rattle.attribute_columns.specs.Dictionary.{ids_at}
use Rattle.attribute_columns.proofs.ListLaws.{moved_part_rises, step_moved}
use Rattle.attribute_columns.proofs.dictionary.move_all.Goals as goal

pub move_in-requires : goal.move_in-requires
move_in-requires c =
    let z = get_or c.args.numbers.now c.loop-at.at (pos 0) in
    let own = to_z w64 (of_z w64 z) in
    moved_part_rises c.args.from c.args.to (has_number own (take c.loop-at.at c.args.numbers.now)) (ids_at c.args.lists.now own) (ids_at c.loop-at.lists own) (c.requires.rising own) (c.loop-at.invariant.0 own)

pub loop-at-preserved : goal.loop-at-preserved
loop-at-preserved c =
    let numbers = c.args.numbers.now in
    let at = c.loop-at.at in
    let x = c.args.from in
    let w = c.args.to in
    let z = get_or numbers at (pos 0) in
    let fits : SFits w64 z = search rules in
    let e : to_z w64 (of_z w64 z) ≡ z = to_z-of_z w64 z fits in
    let less : at < length numbers = omega arith in (
      λ q.
          step_moved x w c.requires.other z q (has_number q (take at numbers)) (ids_at c.loop-at.lists) (ids_at c.args.lists.now) (ids_at c.move_in.new.lists q) (c.requires.rising q)
          (subst (λ n. ids_at c.move_in.new.lists q ≡ cond (int_eq n q) (moved_local x w (ids_at c.loop-at.lists n)) (ids_at c.loop-at.lists q)) e (c.move_in.ensures.ids q))
          (c.loop-at.invariant.0 q)
          ∙ ap (λ b. cond b (moved_local x w (ids_at c.args.lists.now q)) (ids_at c.args.lists.now q)) (sym (list_any_more (int_eq q) numbers at (pos 0) less)),
      λ h. c.move_in.ensures.some (c.loop-at.invariant.1 h),
    )

use Rattle.std.proofs.Common.{◌≡◌, ◌<◌, ◌&&◌, not, ◌∙◌, sym, ap, [], ◌∷◌, ◌++◌, length, pos, arith, rules, get_or, true, false}
use mir.Val.{to_z, of_z, SFits}
use mir.Syntax.{w64}
use Rattle.std.proofs.lemmas.Int.{to_z-of_z}
use Rattle.std.specs.Ordering.{int_eq}
use Rattle.std.proofs.lemmas.List.Folds.{list_any_more}
use Rattle.attribute_columns.specs.Columns.{has_number}
use Rattle.attribute_columns.proofs.NumberLaws.{lack_more, lack_same}
use Rattle.attribute_columns.proofs.numbers.lacking.Goals.{then-not-contains+in_ok-push, else-not-contains}
use Rattle.attribute_columns.proofs.numbers.lacking.Goals as goal

pub loop-number-preserved : goal.loop-number-preserved
loop-number-preserved c = λ q.
    let less : c.loop-number.number-index < length c.args.numbers.now = omega arith in
    let z = get_or c.args.numbers.now c.loop-number.number-index (pos 0) in
    let more = ap (λ b. b && not (has_number q c.args.others.now)) (sym (list_any_more (int_eq q) c.args.numbers.now c.loop-number.number-index (pos 0) less)) in
    elim c.if-not-contains.branch [
      | then-not-contains+in_ok-push w ↦
          (let fits : SFits w64 z = search rules in
          let e : to_z w64 (of_z w64 z) ≡ z = to_z-of_z w64 z fits in
          let missing : has_number z c.args.others.now ≡ false = sym (c.in_ok-set.ensures z) ∙ sym c.contains.ensures ∙ w.if-not-contains.true in
          ap (λ v. has_number q v.items) w.list-is ∙ ap (has_number q) (w.in_ok-push.ensures.items ∙ ap (λ n. c.loop-number.list.items ++ n ∷ []) e)
          ∙ lack_more q z c.loop-number.list.items c.args.others.now _ missing (c.loop-number.invariant q) ∙ more)
      | else-not-contains w ↦
          (let there : has_number z c.args.others.now ≡ true = sym (c.in_ok-set.ensures z) ∙ sym c.contains.ensures ∙ w.if-not-contains.false in
          ap (λ v. has_number q v.items) w.list-is ∙ lack_same q z c.loop-number.list.items c.args.others.now _ there (c.loop-number.invariant q) ∙ more)
    ]

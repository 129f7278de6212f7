use Rattle.std.proofs.Common.{◌≡◌, sym, ap, subst, ◌∙◌, Some, None, []}
use mir.Syntax.{w64}
use Rattle.std.proofs.lemmas.Int.{to_z-of_z}
use Rattle.std.specs.Option.{option_map_or, option_copied}
use Rattle.std.specs.Ordering.{int_cmp}
use Rattle.std.specs.BTreeMap as tree
use Rattle.attribute_columns.proofs.dictionary.list_in.Goals as goal

pub returns-in-Some : goal.returns-in-Some
returns-in-Some c =
    let e : tree.get int_cmp c.args.lists.now c.args.number ≡ Some c.in-Some.list.now = subst (λ n. tree.get int_cmp c.args.lists.now n ≡ Some c.in-Some.list.now) (to_z-of_z w64 c.args.number c.ranges.number) (sym c.get.ensures.value ∙ ap option_copied c.in-Some.is) in
    c.deref.ensures.value ∙ sym (ap (λ o. option_map_or (λ v. v.items) o []) e)

pub returns-in-None : goal.returns-in-None
returns-in-None c =
    let e : tree.get int_cmp c.args.lists.now c.args.number ≡ None = subst (λ n. tree.get int_cmp c.args.lists.now n ≡ None) (to_z-of_z w64 c.args.number c.ranges.number) (sym c.get.ensures.value ∙ ap option_copied c.in-None.is) in
    sym (ap (λ o. option_map_or (λ v. v.items) o []) e)

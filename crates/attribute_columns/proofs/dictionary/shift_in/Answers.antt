use Rattle.std.proofs.Common.{◌≡◌, sym, ap, subst, [], Some}
use mir.Syntax.{w64}
use Rattle.std.proofs.lemmas.Int.{to_z-of_z}
use Rattle.std.specs.Option.{option_map_or}
use Rattle.std.specs.Ordering.{int_cmp}
use Rattle.std.specs.BTreeMap as tree
use Rattle.local_ids.specs.Rising.{IsRising}
use Rattle.attribute_columns.proofs.dictionary.shift_in.Goals as goal

pub move_local-requires : goal.move_local-requires
move_local-requires c =
    let there : tree.get int_cmp c.args.lists.now c.args.number ≡ Some c.in-Some.list.now = subst (λ n. tree.get int_cmp c.args.lists.now n ≡ Some c.in-Some.list.now) (to_z-of_z w64 c.args.number c.ranges.number) (sym c.in-Some.ensures.value) in
    subst IsRising (ap (λ o. option_map_or (λ v. v.items) o []) there) c.requires

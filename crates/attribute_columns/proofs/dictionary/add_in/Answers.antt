use Rattle.std.proofs.Common.{◌≡◌, sym, ap, subst, ◌∙◌, [], Some, rules}
use mir.Syntax.{w64}
use Rattle.std.proofs.lemmas.Int.{to_z-of_z}
use Rattle.std.specs.Option.{option_map_or}
use Rattle.std.specs.Ordering.{int_cmp}
use Rattle.std.specs.BTreeMap as tree
use Rattle.proof_basics.proofs.Results.{on_ok}
use Rattle.local_ids.specs.Rising.{IsRising, with_local}
use Rattle.attribute_columns.specs.Dictionary.{ids_at}
use Rattle.attribute_columns.proofs.ListLaws.{updated}
use Rattle.attribute_columns.proofs.dictionary.add_in.Goals as goal

pub put_local-requires : goal.put_local-requires
put_local-requires c =
    let there : tree.get int_cmp c.args.lists.now c.args.number ≡ Some c.in-Some.list.now = subst (λ n. tree.get int_cmp c.args.lists.now n ≡ Some c.in-Some.list.now) (to_z-of_z w64 c.args.number c.ranges.number) (sym c.in-Some.ensures.value) in
    subst IsRising (ap (λ o. option_map_or (λ v. v.items) o []) there) c.requires

pub returns-in-Some-clause-ok : goal.returns-in-Some-clause-ok
returns-in-Some-clause-ok c =
    let x = c.args.local in
    let old = c.args.lists.now in
    let there : tree.get int_cmp old c.args.number ≡ Some c.in-Some.list.now = subst (λ n. tree.get int_cmp c.args.lists.now n ≡ Some c.in-Some.list.now) (to_z-of_z w64 c.args.number c.ranges.number) (sym c.in-Some.ensures.value) in
    on_ok c.put_local.result (λ e.
    updated c.args.number old (c.get_mut.follows.lender c.put_local.new.list) (Some c.put_local.new.list) (subst (λ n. tree.UpdatesBy int_cmp (int_cmp n) old (c.get_mut.follows.lender c.put_local.new.list) (Some c.put_local.new.list)) (to_z-of_z w64 c.args.number c.ranges.number) ((c.get_mut.follows.holds c.put_local.new.list).3 (search rules)))
    (with_local x (ids_at old c.args.number))
    (e ∙ sym (ap (λ o. with_local x (option_map_or (λ v. v.items) o [])) there))) c.put_local.ensures.ok

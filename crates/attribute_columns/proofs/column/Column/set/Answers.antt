use Rattle.std.proofs.Common.{◌≡◌, ◌&&◌, not, refl, sym, ap, subst, ◌∙◌, cond}
use Rattle.std.specs.FinMap as fin
use Rattle.local_ids.specs.Rising.{without_local}
use Rattle.attribute_columns.specs.Columns.{has_number, numbers_of}
use Rattle.attribute_columns.specs.Dictionary.{ids_at, IsKept}
use Rattle.attribute_columns.proofs.KeptLaws.{rises_of, lack_of, added_rises, kept_with, kept_again}
use Rattle.attribute_columns.proofs.column.Column.set.Goals as goal

pub add_all-requires-clause-rising : goal.add_all-requires-clause-rising
add_all-requires-clause-rising c = rises_of c.self.inside.values c.self.inside.lists c.self.invariant

pub add_all-requires-clause-lack : goal.add_all-requires-clause-lack
add_all-requires-clause-lack c =
    lack_of c.self.inside.values c.self.inside.lists c.args.local c.deref.result.now c.numbers_of.result.now c.numbers_at-before.result.now c.self.invariant c.numbers_at-before.ensures
    (λ q. ap (has_number q) c.deref.ensures.value ∙ c.in_ok-fresh.ensures q)

pub remove_all-requires : goal.remove_all-requires
remove_all-requires c =
    added_rises c.self.inside.values c.self.inside.lists c.add_all.new.lists c.args.local c.deref.result.now c.self.invariant c.in_ok-add_all.ensures.ok

pub invariant_of-self-in-Ok : goal.invariant_of-self-in-Ok
invariant_of-self-in-Ok c =
    let value = c.args.value.now in
    let before = c.numbers_at-before.result.now in
    kept_with c.self.inside.values c.set.new.self c.self.inside.lists c.add_all.new.lists c.remove_all.new.lists c.args.local value c.deref.result.now c.deref-in-Ok.result.now (numbers_of value) before c.self.invariant
    refl c.numbers_at-before.ensures (c.in-Ok.ensures.ok ∙ ap (fin.insert c.self.inside.values c.args.local) c.in_ok-copy.ensures)
    (λ q. ap (has_number q) c.deref.ensures.value ∙ c.in_ok-fresh.ensures q ∙ ap (λ ns. has_number q ns && not (has_number q before)) c.numbers_of.ensures)
    (λ q. ap (has_number q) c.deref-in-Ok.ensures.value ∙ c.in_ok-gone.ensures q ∙ ap (λ ns. has_number q before && not (has_number q ns)) c.numbers_of-2.ensures)
    c.in_ok-add_all.ensures.ok c.remove_all.ensures.ids (c.remove_all.ensures.some (c.add_all.ensures.some c.self.invariant.some))

pub remove_all-requires-in-Err : goal.remove_all-requires-in-Err
remove_all-requires-in-Err c =
    added_rises c.self.inside.values c.self.inside.lists c.add_all.new.lists c.args.local c.deref.result.now c.self.invariant c.in_ok-add_all.ensures.ok

pub invariant_of-self-in-Err : goal.invariant_of-self-in-Err
invariant_of-self-in-Err c =
    let before = c.numbers_at-before.result.now in
    let after = c.remove_all-in-Err.new.lists in
    let mid = c.add_all.new.lists in
    let x = c.args.local in
    subst (λ m. IsKept m after) (sym c.in-Err.ensures.err)
    (kept_again c.self.inside.values c.self.inside.lists mid after x c.deref.result.now c.numbers_of.result.now before c.self.invariant c.numbers_at-before.ensures
    (λ q. ap (has_number q) c.deref.ensures.value ∙ c.in_ok-fresh.ensures q) c.in_ok-add_all.ensures.ok
    (λ q. subst (λ ns. ids_at after q ≡ cond (has_number q ns) (without_local x (ids_at mid q)) (ids_at mid q)) (c.deref-in-Err.ensures.value ∙ sym c.deref.ensures.value) (c.remove_all-in-Err.ensures.ids q))
    (c.remove_all-in-Err.ensures.some (c.add_all.ensures.some c.self.invariant.some)))

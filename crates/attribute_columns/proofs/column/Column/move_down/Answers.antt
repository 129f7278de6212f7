use Rattle.std.proofs.Common.{◌≡◌, ◌≢◌, None, sym, ap, subst, ◌∙◌, arith}
use Rattle.std.specs.FinMap as fin
use Rattle.attribute_columns.proofs.KeptLaws.{rises_of, kept_moved}
use Rattle.attribute_columns.proofs.column.Column.move_down.Goals as goal

pub move_all-requires-clause-rising : goal.move_all-requires-clause-rising
move_all-requires-clause-rising c = rises_of c.self.inside.values c.self.inside.lists c.self.invariant

pub move_all-requires-clause-other : goal.move_all-requires-clause-other
move_all-requires-clause-other c = λ e. omega (arith, c.requires.below, e)

pub move_down-requires-clause-free : goal.move_down-requires-clause-free
move_down-requires-clause-free c = subst (λ h. fin.get h.values c.args.to ≡ None) (sym c.self.view_is) c.requires.free

pub invariant_of-self : goal.invariant_of-self
invariant_of-self c =
    let free : fin.get c.self.inside.values c.args.to ≡ None = subst (λ h. fin.get h.values c.args.to ≡ None) (sym c.self.view_is) c.requires.free in
    kept_moved c.self.inside.values c.move_down.new.self c.self.inside.lists c.move_all.new.lists c.args.from c.args.to c.numbers_at.result.now c.self.invariant
    c.numbers_at.ensures free (λ e. omega (arith, c.requires.below, e)) c.move_down.ensures c.move_all.ensures.ids c.move_all.ensures.some

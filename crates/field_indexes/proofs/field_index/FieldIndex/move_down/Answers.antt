use Rattle.std.proofs.Common.{◌≡◌, None, sym, ap, subst, arith}
use Rattle.std.specs.FinMap as fin
use Rattle.field_indexes.proofs.KeptLaws.{rises_of, kept_free, words_moved}
use Rattle.field_indexes.proofs.field_index.FieldIndex.move_down.Goals as goal

pub move_words-requires-clause-rising : goal.move_words-requires-clause-rising
move_words-requires-clause-rising c = rises_of c.self.inside.column.values c.self.inside.kept c.self.inside.words c.self.invariant

pub move_words-requires-clause-other : goal.move_words-requires-clause-other
move_words-requires-clause-other c = λ e. omega (arith, c.requires.below, e)

pub move_down-requires-clause-free : goal.move_down-requires-clause-free
move_down-requires-clause-free c =
    let free : fin.get c.self.inside.column.values c.args.to ≡ None = subst (λ h. fin.get h.values c.args.to ≡ None) (sym c.self.view_is) c.requires.free in
    kept_free c.self.inside.column.values c.self.inside.kept c.self.inside.words c.self.invariant c.args.to free

pub move_down-requires-2-clause-free : goal.move_down-requires-2-clause-free
move_down-requires-2-clause-free c = subst (λ h. fin.get h.values c.args.to ≡ None) (sym c.self.view_is) c.requires.free

pub invariant_of-self : goal.invariant_of-self
invariant_of-self c =
    let free : fin.get c.self.inside.column.values c.args.to ≡ None = subst (λ h. fin.get h.values c.args.to ≡ None) (sym c.self.view_is) c.requires.free in
    words_moved c.self.inside.column.values c.move_down-2.new.self.values c.self.inside.kept c.move_down.new.self c.self.inside.words c.move_words.new.words c.args.from c.args.to c.words_at.result.now c.self.invariant
    free (λ e. omega (arith, c.requires.below, e)) c.words_at.ensures (ap (λ h. h.values) c.move_down-2.ensures) c.move_down.ensures c.move_words.ensures

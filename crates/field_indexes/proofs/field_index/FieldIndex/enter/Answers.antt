use Rattle.std.proofs.Common.{◌≡◌, None, sym, ap, subst, ◌∙◌}
use Rattle.std.specs.FinMap as fin
use Rattle.doc_types.specs.Values.{kind_of}
use Rattle.attribute_columns.specs.Columns.{with_value, without_value}
use Rattle.field_indexes.proofs.KeptLaws.{rises_of, lack_of, kept_free, words_with, words_again, column_back}
use Rattle.field_indexes.proofs.field_index.FieldIndex.enter.Goals as goal

pub set-requires : goal.set-requires
set-requires c = subst (λ h. kind_of c.args.value.now ≡ h.kind) (sym c.self.view_is) c.requires.kind

pub enter_words-requires-clause-free : goal.enter_words-requires-clause-free
enter_words-requires-clause-free c =
    let free : fin.get c.self.inside.column.values c.args.local ≡ None = subst (λ h. fin.get h.values c.args.local ≡ None) (sym c.self.view_is) c.requires.free in
    kept_free c.self.inside.column.values c.self.inside.kept c.self.inside.words c.self.invariant c.args.local free

pub enter_words-requires-clause-rising : goal.enter_words-requires-clause-rising
enter_words-requires-clause-rising c = rises_of c.self.inside.column.values c.self.inside.kept c.self.inside.words c.self.invariant

pub enter_words-requires-clause-lack : goal.enter_words-requires-clause-lack
enter_words-requires-clause-lack c =
    let free : fin.get c.self.inside.column.values c.args.local ≡ None = subst (λ h. fin.get h.values c.args.local ≡ None) (sym c.self.view_is) c.requires.free in
    λ w t h. lack_of c.self.inside.column.values c.self.inside.kept c.self.inside.words c.self.invariant c.args.local free w h

pub invariant_of-self-in-Ok : goal.invariant_of-self-in-Ok
invariant_of-self-in-Ok c =
    let free : fin.get c.self.inside.column.values c.args.local ≡ None = subst (λ h. fin.get h.values c.args.local ≡ None) (sym c.self.view_is) c.requires.free in
    words_with c.self.inside.column.values c.set.new.self.values c.self.inside.kept c.enter_words.new.kept c.self.inside.words c.enter_words.new.words c.args.local c.args.value.now c.in_ok-own.own c.self.invariant free
    c.in_ok-own.ensures (ap (λ h. h.values) c.in_ok-set.ensures.ok) c.in-Ok.ensures.kept c.in-Ok.ensures.lists

pub invariant_of-self-in-Err : goal.invariant_of-self-in-Err
invariant_of-self-in-Err c =
    let free : fin.get c.self.inside.column.values c.args.local ≡ None = subst (λ h. fin.get h.values c.args.local ≡ None) (sym c.self.view_is) c.requires.free in
    words_again c.self.inside.column.values c.clear.new.self.values c.self.inside.kept c.enter_words.new.kept c.self.inside.words c.enter_words.new.words c.self.invariant
    (ap (λ h. h.values) (c.clear.ensures ∙ ap (without_value c.args.local) c.in_ok-set.ensures.ok ∙ column_back c.self.inside.column c.args.local c.args.value.now free)) c.in-Err.ensures.kept_before c.in-Err.ensures.lists_before

pub returns-in-Err-clause-err : goal.returns-in-Err-clause-err
returns-in-Err-clause-err c =
    let free : fin.get c.self.inside.column.values c.args.local ≡ None = subst (λ h. fin.get h.values c.args.local ≡ None) (sym c.self.view_is) c.requires.free in
    c.clear.ensures ∙ ap (without_value c.args.local) c.in_ok-set.ensures.ok ∙ column_back c.self.inside.column c.args.local c.args.value.now free ∙ c.self.view_is

use Rattle.std.proofs.Common.{sym, ap, subst, ◌∙◌}
use Rattle.proof_basics.proofs.Results.{on_ok, on_err, on_either}
use Rattle.word_index.specs.Index.{IsIndex, with_word}
use Rattle.word_index.proofs.IndexLaws.{rises_at, added, same_lists, with_word_keeps}
use Rattle.word_index.proofs.index.WordIndex.add.Goals as goal

pub add_in-requires : goal.add_in-requires
add_in-requires c = rises_at (λ v. v.items) c.self.inside.lists c.self.invariant c.args.token.now

pub invariant_of-self : goal.invariant_of-self
invariant_of-self c =
    on_either c.add_in.result c.add_in.ensures.ok c.add_in.ensures.err
    (λ e. subst IsIndex (sym (added (λ v. v.items) c.self.inside.lists c.add_in.new.lists c.args.token.now c.args.local e)) (with_word_keeps c.args.token.now c.args.local _ c.self.invariant))
    (λ e. subst IsIndex (sym (same_lists (λ v. v.items) c.self.inside.lists c.add_in.new.lists e)) c.self.invariant)

pub returns-clause-ok : goal.returns-clause-ok
returns-clause-ok c =
    on_ok c.add_in.result (λ e. added (λ v. v.items) c.self.inside.lists c.add_in.new.lists c.args.token.now c.args.local e ∙ ap (with_word c.args.token.now c.args.local) c.self.view_is) c.add_in.ensures.ok

pub returns-clause-err : goal.returns-clause-err
returns-clause-err c =
    on_err c.add_in.result (λ e. same_lists (λ v. v.items) c.self.inside.lists c.add_in.new.lists e ∙ c.self.view_is) c.add_in.ensures.err

use Rattle.std.proofs.Common.{sym, ap, subst, ◌∙◌}
use Rattle.word_index.specs.Index.{IsIndex, without_word}
use Rattle.word_index.proofs.IndexLaws.{rises_at, dropped, without_word_keeps, same_word}
use Rattle.word_index.proofs.index.WordIndex.remove.Goals as goal

pub drop_in-requires : goal.drop_in-requires
drop_in-requires c = rises_at (λ v. v.items) c.self.inside.lists c.self.invariant c.args.token.now

pub invariant_of-self : goal.invariant_of-self
invariant_of-self c =
    subst IsIndex (sym (dropped (λ v. v.items) c.self.inside.lists c.drop_in.new.lists c.tidy_in.new.lists c.args.token.now c.args.local c.drop_in.ensures c.tidy_in.ensures (same_word c.args.token.now)))
    (without_word_keeps c.args.token.now c.args.local _ c.self.invariant)

pub returns : goal.returns
returns c =
    dropped (λ v. v.items) c.self.inside.lists c.drop_in.new.lists c.tidy_in.new.lists c.args.token.now c.args.local c.drop_in.ensures c.tidy_in.ensures (same_word c.args.token.now)
    ∙ ap (without_word c.args.token.now c.args.local) c.self.view_is

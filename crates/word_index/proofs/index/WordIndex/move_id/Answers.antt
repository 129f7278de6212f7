use Rattle.std.proofs.Common.{sym, ap, subst, refl, ◌∙◌}
use Rattle.local_ids.specs.Rising.{moved_local}
use Rattle.word_index.specs.Index.{IsIndex, with_moved}
use Rattle.word_index.proofs.IndexLaws.{rises_at, changed, with_moved_keeps, same_word}
use Rattle.word_index.proofs.index.WordIndex.move_id.Goals as goal

pub move_in-requires : goal.move_in-requires
move_in-requires c = rises_at (λ v. v.items) c.self.inside.lists c.self.invariant c.args.token.now

pub invariant_of-self : goal.invariant_of-self
invariant_of-self c =
    subst IsIndex (sym (changed (λ v. v.items) c.self.inside.lists c.move_in.new.lists c.tidy_in.new.lists c.args.token.now (moved_local c.args.from c.args.to) refl c.move_in.ensures c.tidy_in.ensures (same_word c.args.token.now)))
    (with_moved_keeps c.args.token.now c.args.from c.args.to _ c.self.invariant)

pub returns : goal.returns
returns c =
    changed (λ v. v.items) c.self.inside.lists c.move_in.new.lists c.tidy_in.new.lists c.args.token.now (moved_local c.args.from c.args.to) refl c.move_in.ensures c.tidy_in.ensures (same_word c.args.token.now)
    ∙ ap (with_moved c.args.token.now c.args.from c.args.to) c.self.view_is

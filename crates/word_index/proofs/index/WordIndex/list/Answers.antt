use Rattle.std.proofs.Common.{sym, ap, subst, ◌∙◌}
use Rattle.local_ids.specs.Rising.{IsRising}
use Rattle.word_index.specs.Index.{list_of}
use Rattle.word_index.proofs.IndexLaws.{list_is, list_rises}
use Rattle.word_index.proofs.index.WordIndex.list.Goals as goal

pub returns-clause-ids : goal.returns-clause-ids
returns-clause-ids c = c.list_in.ensures ∙ list_is (λ v. v.items) c.self.inside.lists c.args.token.now ∙ ap (list_of c.args.token.now) c.self.view_is

pub returns-clause-rising : goal.returns-clause-rising
returns-clause-rising c = subst IsRising (sym (c.list_in.ensures ∙ list_is (λ v. v.items) c.self.inside.lists c.args.token.now)) (list_rises c.args.token.now _ c.self.invariant)

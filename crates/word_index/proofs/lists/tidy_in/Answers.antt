use Rattle.std.proofs.Common.{sym, ◌∙◌, None}
use Rattle.std.specs.HashMap.{get_by_text}
use Rattle.word_index.proofs.IndexLaws.{updated, none_any, no_length}
use Rattle.word_index.proofs.lists.tidy_in.Goals as goal

pub returns-then-is_empty : goal.returns-then-is_empty
returns-then-is_empty c =
    updated (λ v. v.items) c.args.token.now c.args.lists.now c.remove.new.self None c.remove.ensures.updates _ (none_any (λ v. v.items) (get_by_text c.args.lists.now c.args.token.now) (sym c.list_in.ensures ∙ no_length c.list_in.result.now (sym c.is_empty.ensures ∙ c.if-is_empty.true)))

use Rattle.std.proofs.Common.{ap, ◌∙◌}
use Rattle.field_indexes.specs.Words.{locals_having}
use Rattle.field_indexes.proofs.field_index.FieldIndex.with_word.Goals as goal

pub returns-clause-ids : goal.returns-clause-ids
returns-clause-ids c = c.list.ensures.ids ∙ c.self.invariant.lists c.args.word.now ∙ ap (λ h. locals_having c.args.word.now h.values) c.self.view_is

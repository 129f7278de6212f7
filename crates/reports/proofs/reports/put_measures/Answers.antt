use Rattle.std.proofs.Common.{◌∙◌}
use Rattle.reports.proofs.FieldTokens.{four_said}
use Rattle.reports.proofs.reports.put_measures.Goals as goal

pub returns : goal.returns
returns c = record {
  before = c.in_ok-boolean.ensures.room.0 ∙ c.in_ok-key.ensures.room.0 ∙ c.in_ok-put_count-2.ensures.before ∙ c.in_ok-put_count.ensures.before;
  tokens = four_said _ _ _ _ _ _ _ _ _ c.in_ok-put_count.ensures.tokens c.in_ok-put_count-2.ensures.tokens c.in_ok-key.ensures.ok c.in_ok-boolean.ensures.ok;
}

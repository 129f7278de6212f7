use Rattle.std.proofs.Common.{◌∙◌}
use Rattle.reports.proofs.GroupTokens.{list_said}
use Rattle.reports.proofs.groups.put_groups.Goals as goal

pub returns : goal.returns
returns c = record {
  before = c.in_ok-end_array.ensures.room.0 ∙ c.in_ok-put_each.ensures.before ∙ c.in_ok-begin_array.ensures.room.0 ∙ c.in_ok-key.ensures.room.0;
  tokens = list_said _ _ _ _ _ _ c.in_ok-key.ensures.ok c.in_ok-begin_array.ensures.ok c.in_ok-put_each.ensures.tokens c.in_ok-end_array.ensures.ok;
}

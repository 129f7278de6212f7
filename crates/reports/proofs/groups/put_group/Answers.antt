use Rattle.std.proofs.Common.{◌∙◌}
use Rattle.reports.proofs.GroupTokens.{group_said}
use Rattle.reports.proofs.groups.put_group.Goals as goal

pub returns : goal.returns
returns c = record {
  before = c.in_ok-end_object.ensures.room.0 ∙ c.in_ok-put_members.ensures.before ∙ c.in_ok-begin_object.ensures.room.0;
  tokens = group_said _ _ _ _ _ _ _ c.in_ok-said.ensures c.in_ok-begin_object.ensures.ok c.in_ok-put_members.ensures.tokens c.in_ok-end_object.ensures.ok;
}

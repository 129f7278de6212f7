use Rattle.std.proofs.Common.{◌∙◌}
use Rattle.reports.proofs.FieldTokens.{object_said}
use Rattle.reports.proofs.fields.put_fields.Goals as goal

pub returns : goal.returns
returns c = record {
  before = c.in_ok-end_object.ensures.room.0 ∙ c.in_ok-put_all.ensures.before ∙ c.in_ok-begin_object.ensures.room.0;
  tokens = object_said _ _ _ _ _ _ c.fields.ensures c.in_ok-begin_object.ensures.ok c.in_ok-put_all.ensures.tokens c.in_ok-end_object.ensures.ok;
}

use Rattle.std.proofs.Common.{◌∙◌}
use Rattle.op_machine.proofs.NodeLaws.{size_of-count}
use Rattle.op_machine.proofs.plan.Plan.count.Goals as goal

pub returns : goal.returns
returns c = c.len.ensures.value ∙ size_of-count _ _ c.intersection.ensures

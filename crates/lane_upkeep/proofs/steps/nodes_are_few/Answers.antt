use Rattle.std.proofs.Common.{◌∙◌}
use Rattle.lane_upkeep.proofs.Permitted.{small_of}
use Rattle.lane_upkeep.proofs.steps.nodes_are_few.Goals as goal

pub returns : goal.returns
returns c = λ n on. small_of c.serving-serving.result n (c.serving-serving.ensures n ∙ on)

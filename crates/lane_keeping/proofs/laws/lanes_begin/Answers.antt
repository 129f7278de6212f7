use Rattle.lane_keeping.proofs.Asking.{keeps-nothing}
use Rattle.lane_keeping.proofs.laws.lanes_begin.Goals as goal

pub returns : goal.returns
returns c = λ lane rules. keeps-nothing lane rules c.nodes_wait.ensures.begins

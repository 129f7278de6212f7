use Rattle.node_model.proofs.Replying.{taken_once}
use Rattle.node_model.proofs.laws.replies_are_one.Goals as goal

pub returns : goal.returns
returns c = taken_once

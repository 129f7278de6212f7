use Rattle.node_model.proofs.Replying.{changes_nothing}
use Rattle.node_model.proofs.laws.refusals_change_nothing.Goals as goal

pub returns : goal.returns
returns c = changes_nothing

use Rattle.ideal_nodes.proofs.StateMarks.{ideal_once}
use Rattle.ideal_nodes.proofs.laws.state_has_one_list.Goals as goal

pub returns : goal.returns
returns c = ideal_once

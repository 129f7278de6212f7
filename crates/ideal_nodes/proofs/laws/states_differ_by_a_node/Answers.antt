use Rattle.ideal_nodes.proofs.StateMarks.{ideal_without}
use Rattle.ideal_nodes.proofs.laws.states_differ_by_a_node.Goals as goal

pub returns : goal.returns
returns c = ideal_without

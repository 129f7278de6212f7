use Rattle.op_machine.proofs.ListLaws.{tally-list}
use Rattle.op_machine.proofs.laws.tallies_are_lists.Goals as goal

pub returns : goal.returns
returns c = tally-list

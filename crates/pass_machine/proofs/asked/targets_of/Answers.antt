use Rattle.pass_machine.proofs.NodesOfRows.{target_is}
use Rattle.pass_machine.proofs.asked.targets_of.Goals as goal

pub returns : goal.returns
returns c = λ v sees row has. target_is c.args.part.now v c.args.at row sees has c.targets.result c.targets.ensures

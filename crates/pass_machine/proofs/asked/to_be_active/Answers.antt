use Rattle.pass_machine.proofs.NodesOfRows.{to_be_is}
use Rattle.pass_machine.proofs.asked.to_be_active.Goals as goal

pub returns : goal.returns
returns c = λ v sees row has. to_be_is c.args.part.now v c.args.at row sees has c.to_be_active.result c.to_be_active.ensures.some c.to_be_active.ensures.none

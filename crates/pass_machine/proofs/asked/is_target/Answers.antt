use Rattle.std.proofs.Common.{◌∙◌}
use Rattle.pass_machine.proofs.NodesOfRows.{target_is}
use Rattle.pass_machine.proofs.asked.is_target.Goals as goal

pub returns : goal.returns
returns c = λ v sees row has. c.has.ensures ∙ target_is c.args.part.now v c.args.at row sees has c.targets.result c.targets.ensures c.args.node

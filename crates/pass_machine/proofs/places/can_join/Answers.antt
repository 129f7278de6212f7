use Rattle.pass_machine.proofs.Siblings.{can_join_is}
use Rattle.pass_machine.proofs.places.can_join.Goals as goal

pub returns : goal.returns
returns c = λ row found. can_join_is c.args.part.now c.args.at row c.can_join.result c.can_join.ensures c.rows-rows.ensures.of_lane found

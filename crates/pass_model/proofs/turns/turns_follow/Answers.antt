use Rattle.pass_model.proofs.Framing.{one-turn, turns-follow, next-says, next-rows}
use Rattle.pass_model.proofs.turns.turns_follow.Goals as goal

pub returns-clause-one : goal.returns-clause-one
returns-clause-one c = one-turn

pub returns-clause-more : goal.returns-clause-more
returns-clause-more c = turns-follow

pub returns-clause-nodes : goal.returns-clause-nodes
returns-clause-nodes c = next-says

pub returns-clause-rows : goal.returns-clause-rows
returns-clause-rows c = next-rows

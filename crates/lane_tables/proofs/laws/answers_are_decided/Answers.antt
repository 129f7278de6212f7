use Rattle.lane_tables.proofs.Answering.{are-answers}
use Rattle.lane_tables.proofs.laws.answers_are_decided.Goals as goal

pub returns : goal.returns
returns c = are-answers

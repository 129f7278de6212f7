use Rattle.lane_rest.proofs.Facts.{rests-with}
use Rattle.lane_rest.proofs.laws.rows_rest_with_what_they_have.Goals as goal

pub returns : goal.returns
returns c = rests-with

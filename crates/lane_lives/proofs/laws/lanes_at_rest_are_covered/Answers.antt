use Rattle.lane_lives.proofs.Covered.{covered}
use Rattle.lane_lives.proofs.laws.lanes_at_rest_are_covered.Goals as goal

pub returns : goal.returns
returns c = covered

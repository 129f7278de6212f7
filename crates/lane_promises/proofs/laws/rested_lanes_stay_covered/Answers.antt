use Rattle.lane_promises.proofs.Covered.{rested_covered}
use Rattle.lane_promises.proofs.laws.rested_lanes_stay_covered.Goals as goal

pub returns : goal.returns
returns c = rested_covered c.lanes_at_rest_are_covered.ensures

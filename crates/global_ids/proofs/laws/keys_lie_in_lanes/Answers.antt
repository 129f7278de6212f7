use Rattle.global_ids.proofs.KeyLaws.{lies_in_lane, lane_valid}
use Rattle.global_ids.proofs.laws.keys_lie_in_lanes.Goals as goal

pub returns : goal.returns
returns c = record { lane = lies_in_lane; bucket = lane_valid }

use Rattle.std.proofs.Common.{◌≡◌, ◌++◌, map, take, drop}
use Rattle.lane_core.specs.Shelved.{with_lane, OfLane}
use Rattle.lane_calls.specs.LaneValues.{IsLaneValue}
use Rattle.session_cluster.specs.Steps.{after_stop}
use Rattle.session_cluster.proofs.Elements.{Below}
use Rattle.session_cluster.proofs.every_lane.stop_all.Given as goal

-- the lanes so far did it, and are legal
abbrev pub invariant-loop-lane : goal.invariant-loop-lane
invariant-loop-lane g l =
    (l.lanes ≡ map (with_lane (after_stop l.node)) (take l.lane-index l.initial.lanes) ++ drop l.lane-index l.initial.lanes) × Below (OfLane IsLaneValue) l.lane-index l.lanes

use Rattle.std.proofs.Common.{◌≡◌, ◌++◌, map, take, drop}
use Rattle.lane_core.specs.Shelved.{with_lane}
use Rattle.session_cluster.specs.Steps.{with_room}
use Rattle.session_cluster.proofs.every_lane.make_room.Given as goal

-- room was made in the lanes so far
abbrev pub invariant-loop-lane : goal.invariant-loop-lane
invariant-loop-lane g l = l.lanes ≡ map (with_lane with_room) (take l.lane-index l.initial.lanes) ++ drop l.lane-index l.initial.lanes

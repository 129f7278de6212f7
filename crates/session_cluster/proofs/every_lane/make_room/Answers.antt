use Rattle.std.proofs.Common.{ap, refl}
use Rattle.proof_basics.proofs.Results.{err_then}
use Rattle.lane_core.specs.Shelved.{with_lane}
use Rattle.session_cluster.specs.Steps.{with_room, without_room}
use Rattle.session_cluster.proofs.Elements.{each_more, seen_same}
use Rattle.session_cluster.proofs.every_lane.make_room.Goals as goal

pub returns-in_err-room-clause-err : goal.returns-in_err-room-clause-err
returns-in_err-room-clause-err g c =
    err_then c.from_residual.result (seen_same (with_lane with_room) (with_lane without_room) _ _ _ c.lane-item.result _ (λ v. refl) c.loop-lane.invariant (ap (with_lane without_room) c.in_err-room.ensures.err))

pub loop-lane-preserved : goal.loop-lane-preserved
loop-lane-preserved g c = each_more (with_lane with_room) _ _ _ _ _ c.loop-lane-test.true c.loop-lane.invariant c.lane-item.is c.in_ok-room.ensures.ok

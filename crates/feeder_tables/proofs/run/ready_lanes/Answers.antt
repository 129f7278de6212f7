use Rattle.std.proofs.Common.{length, ap, ◌∙◌, arith}
use Rattle.lane_core.proofs.Places.{push-length}
use Rattle.lane_locks.specs.declared.lanes.ReadyLane.{ReadyLane}
use Rattle.lane_locks.specs.Runs.{MayRun}
use Rattle.feeder_tables.proofs.Asking.{more_may}
use Rattle.feeder_tables.proofs.run.ready_lanes.Goals as goal

pub loop-lane-preserved : goal.loop-lane-preserved
loop-lane-preserved c =
    let i = c.loop-lane.invariant in
    let longer = ap length c.in_ok-push.ensures.items ∙ push-length _ _ in
    let so = i.0 in (
      omega (arith, longer, so),
      more_may (λ (r : ReadyLane _ _ _ _). MayRun c.args.feeders (r.lane).lane r.list) _ _ _ c.in_ok-push.ensures.items i.1 c.in_ok-ready_lane.ensures,
    )

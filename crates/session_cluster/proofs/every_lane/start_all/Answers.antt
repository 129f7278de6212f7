use Rattle.std.proofs.Common.{◌≡◌, true, [], subst, refl, arith}
use Rattle.lane_core.specs.Shelved.{with_lane, OfLane}
use Rattle.lane_calls.specs.LaneValues.{IsLaneValue}
use Rattle.session_cluster.specs.Cells.{ShownLane}
use Rattle.session_cluster.specs.Steps.{after_start}
use Rattle.session_cluster.proofs.Elements.{each_more, each_there, below_none, below_set, below_all}
use Rattle.session_cluster.proofs.every_lane.start_all.Goals as goal

pub loop-lane-init : goal.loop-lane-init
loop-lane-init g c = (refl, below_none (OfLane IsLaneValue) _)

pub start-requires-clause-idle : goal.start-requires-clause-idle
start-requires-clause-idle g c =
    subst (λ (s : ShownLane). s.lane.under_way ≡ []) c.lane-item.is
    (c.requires.roomy _ _ (each_there (with_lane (after_start c.args.node)) _ _ _ _ c.loop-lane-test.true c.loop-lane.invariant.0 c.lane-item.is)).idle

pub start-requires-clause-room : goal.start-requires-clause-room
start-requires-clause-room g c =
    subst (λ (s : ShownLane). s.lane.has_room ≡ true) c.lane-item.is
    (c.requires.roomy _ _ (each_there (with_lane (after_start c.args.node)) _ _ _ _ c.loop-lane-test.true c.loop-lane.invariant.0 c.lane-item.is)).room

pub loop-lane-preserved : goal.loop-lane-preserved
loop-lane-preserved g c = (
  each_more (with_lane (after_start c.args.node)) _ _ _ _ _ c.loop-lane-test.true c.loop-lane.invariant.0 c.lane-item.is c.start.ensures.after,
  below_set (OfLane IsLaneValue) _ _ _ c.loop-lane.invariant.1 c.start.ensures.holds,
)

pub returns-clause-holds : goal.returns-clause-holds
returns-clause-holds g c = below_all (OfLane IsLaneValue) c.loop-lane.lane-index c.loop-lane.lanes c.loop-lane.invariant.1 (omega (arith, c.loop-lane-test.false, c.loop-lane.auto.lanes))

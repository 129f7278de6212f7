use Rattle.std.proofs.Common.{◌≡◌, true, None, [], subst, refl, arith}
use Rattle.cluster_states.specs.Publishing.{publish_fault}
use Rattle.lane_journals.specs.Places.{told}
use Rattle.lane_keeping.specs.LaneKeeping.{setting_of}
use Rattle.lane_core.specs.Shelved.{with_lane, OfLane}
use Rattle.lane_calls.specs.LaneValues.{IsLaneValue}
use Rattle.session_cluster.specs.Cells.{ShownLane}
use Rattle.session_cluster.specs.Steps.{after_state}
use Rattle.session_cluster.proofs.Elements.{each_more, each_there, below_none, below_set, below_all}
use Rattle.session_cluster.proofs.every_lane.announce_all.Goals as goal

pub loop-lane-init : goal.loop-lane-init
loop-lane-init g c = (refl, below_none (OfLane IsLaneValue) _)

pub announce-requires-clause-idle : goal.announce-requires-clause-idle
announce-requires-clause-idle g c =
    subst (λ (s : ShownLane). s.lane.under_way ≡ []) c.lane-item.is
    (c.requires _ _ (each_there (with_lane (after_state c.args.state.now c.args.deaf)) _ _ _ _ c.loop-lane-test.true c.loop-lane.invariant.0 c.lane-item.is)).roomy.idle

pub announce-requires-clause-room : goal.announce-requires-clause-room
announce-requires-clause-room g c =
    subst (λ (s : ShownLane). s.lane.has_room ≡ true) c.lane-item.is
    (c.requires _ _ (each_there (with_lane (after_state c.args.state.now c.args.deaf)) _ _ _ _ c.loop-lane-test.true c.loop-lane.invariant.0 c.lane-item.is)).roomy.room

pub announce-requires-clause-accepted : goal.announce-requires-clause-accepted
announce-requires-clause-accepted g c =
    subst (λ (s : ShownLane). publish_fault (told (setting_of s.lane.lane s.lane.rules) s.lane.journal) c.args.state.now ≡ None) c.lane-item.is
    (c.requires _ _ (each_there (with_lane (after_state c.args.state.now c.args.deaf)) _ _ _ _ c.loop-lane-test.true c.loop-lane.invariant.0 c.lane-item.is)).accepted

pub loop-lane-preserved : goal.loop-lane-preserved
loop-lane-preserved g c = (
  each_more (with_lane (after_state c.args.state.now c.args.deaf)) _ _ _ _ _ c.loop-lane-test.true c.loop-lane.invariant.0 c.lane-item.is c.announce.ensures.after,
  below_set (OfLane IsLaneValue) _ _ _ c.loop-lane.invariant.1 c.announce.ensures.holds,
)

pub returns-clause-holds : goal.returns-clause-holds
returns-clause-holds g c = below_all (OfLane IsLaneValue) c.loop-lane.lane-index c.loop-lane.lanes c.loop-lane.invariant.1 (omega (arith, c.loop-lane-test.false, c.loop-lane.auto.lanes))

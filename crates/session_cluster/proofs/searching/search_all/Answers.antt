use Rattle.std.proofs.Common.{◌≤◌, ◌∙◌, ap, length, arith}
use Rattle.proof_basics.proofs.Results.{ok_then}
use Rattle.shelves.specs.Plain.{Plain}
use Rattle.session_cluster.proofs.SearchLaws.{none_read, settled_at, read_more, lanes_summed, lanes_fronts}
use Rattle.session_cluster.proofs.ShelvedLanes.{below_lanes, lane_index}
use Rattle.session_cluster.proofs.searching.search_all.Goals as goal

pub loop-lane-init : goal.loop-lane-init
loop-lane-init g c = none_read _ _ _ _ _ c.requires.none c.new-sum.ensures

pub loop-lane-preserved : goal.loop-lane-preserved
loop-lane-preserved g c =
    let settled = settled_at c.args.lanes.now c.loop-lane.lane-index c.lane-item.result c.requires.settled c.loop-lane-test.true c.lane-item.is in
    read_more _ _ _ _ c.lane-item.result.lane _ _ _ c.view-view.result.now _ _ c.loop-lane.invariant (below_lanes c.args.lanes.now c.loop-lane.lane-index c.loop-lane-test.true) (lane_index c.args.lanes.now c.loop-lane.lane-index c.lane-item.result c.lane-item.is)
    (c.view-view.ensures ∙ ap (λ (p : Plain). p.view) (c.shelf.ensures.own ∙ settled.0)) c.generation.ensures.value settled.1 c.in_ok-push.ensures.items
    (λ us so. c.in_ok-add.ensures.ok _ _ us so)

pub returns-clause-answer : goal.returns-clause-answer
returns-clause-answer g c =
    let past : length c.args.lanes.now ≤ c.loop-lane.lane-index = omega (arith, c.loop-lane-test.false) in
    c.finish.ensures _ _ _ (lanes_summed _ _ c.loop-lane.lane-index c.args.lanes.now _ c.loop-lane.sum c.loop-lane.invariant past)

pub returns-clause-fronts : goal.returns-clause-fronts
returns-clause-fronts g c =
    let past : length c.args.lanes.now ≤ c.loop-lane.lane-index = omega (arith, c.loop-lane-test.false) in
    ok_then c.finish.result (lanes_fronts _ _ c.loop-lane.lane-index c.args.lanes.now c.loop-lane.fronts.items c.loop-lane.sum c.loop-lane.invariant past)

use Rattle.std.proofs.Common.{refl, ◌∙◌, arith}
use Rattle.std.proofs.Math.Seq.{map-set_same}
use Rattle.shelves.specs.Plain.{Plain, ShowsPlain}
use Rattle.lane_core.specs.Showing.{IsSettled}
use Rattle.session_cluster.specs.Cells.{own_lane}
use Rattle.session_cluster.proofs.Elements.{below_none, below_set, below_all}
use Rattle.session_cluster.proofs.ShelvedLanes.{openings_set}
use Rattle.session_cluster.proofs.searching.settle_all.Goals as goal

pub loop-lane-init : goal.loop-lane-init
loop-lane-init g c = (refl, (refl, below_none (IsSettled ShowsPlain (λ (p : Plain). p.pending)) _))

pub returns-in_err-settle-clause-lanes : goal.returns-in_err-settle-clause-lanes
returns-in_err-settle-clause-lanes g c = map-set_same own_lane _ _ c.settle.new.self c.lane-item.result c.settle.ensures.lane ∙ c.loop-lane.invariant.0

pub returns-in_err-settle-clause-openings : goal.returns-in_err-settle-clause-openings
returns-in_err-settle-clause-openings g c = openings_set _ _ c.settle.new.self c.lane-item.result c.settle.ensures.name ∙ c.loop-lane.invariant.1.0

pub loop-lane-preserved : goal.loop-lane-preserved
loop-lane-preserved g c = (
  map-set_same own_lane _ _ c.settle.new.self c.lane-item.result c.settle.ensures.lane ∙ c.loop-lane.invariant.0,
  (openings_set _ _ c.settle.new.self c.lane-item.result c.settle.ensures.name ∙ c.loop-lane.invariant.1.0, below_set (IsSettled ShowsPlain (λ (p : Plain). p.pending)) _ _ _ c.loop-lane.invariant.1.1 c.in_ok-settle.ensures.settled),
)

pub returns-clause-settled : goal.returns-clause-settled
returns-clause-settled g c = below_all (IsSettled ShowsPlain (λ (p : Plain). p.pending)) c.loop-lane.lane-index c.loop-lane.lanes c.loop-lane.invariant.1.1 (omega (arith, c.loop-lane-test.false, c.loop-lane.auto.lanes))

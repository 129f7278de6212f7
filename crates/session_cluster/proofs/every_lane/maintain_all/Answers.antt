use Rattle.std.proofs.Common.{◌≡◌, ◌∙◌, [], Some, inr, refl, sym, subst, slice_get}
use Rattle.std.specs.Option.{IsSome}
use Rattle.lane_keeping.specs.Tidings.{last_state}
use Rattle.session_cluster.specs.Cells.{ShownLane, lanes_in}
use Rattle.session_cluster.specs.Steps.{MayHaveAllPassed}
use Rattle.session_cluster.proofs.Passing.{none_passed, next_there, passed_cut, passed-more-in, all_passed}
use Rattle.session_cluster.proofs.ShelvedLanes.{below_lanes, lane_index, lanes_set, shelves_set}
use Rattle.session_cluster.proofs.every_lane.maintain_all.Goals as goal

pub loop-lane-init : goal.loop-lane-init
loop-lane-init g c = (none_passed _ _ c.requires.none, refl)

pub maintain-requires-clause-idle : goal.maintain-requires-clause-idle
maintain-requires-clause-idle g c =
    subst (λ (s : ShownLane). s.lane.under_way ≡ []) c.lane-item.is
    (c.requires.may _ _ (next_there _ _ _ _ _ c.loop-lane.invariant.0 (below_lanes c.args.lanes.now c.loop-lane.lane-index c.loop-lane-test.true) (lane_index c.loop-lane.lanes c.loop-lane.lane-index c.lane-item.result c.lane-item.is))).idle

pub maintain-requires-clause-published : goal.maintain-requires-clause-published
maintain-requires-clause-published g c =
    subst (λ (s : ShownLane). IsSome (last_state s.lane.journal)) c.lane-item.is
    (c.requires.may _ _ (next_there _ _ _ _ _ c.loop-lane.invariant.0 (below_lanes c.args.lanes.now c.loop-lane.lane-index c.loop-lane-test.true) (lane_index c.loop-lane.lanes c.loop-lane.lane-index c.lane-item.result c.lane-item.is))).published

pub returns-in_err-span-clause-passed : goal.returns-in_err-span-clause-passed
returns-in_err-span-clause-passed g c =
    subst (MayHaveAllPassed (lanes_in c.args.lanes.now)) (sym (lanes_set c.loop-lane.lanes c.loop-lane.lane-index c.maintain.new.lane))
    (passed_cut _ _ _ _ _ _ c.loop-lane.invariant.0
    (subst (λ (s : ShownLane). slice_get (lanes_in c.args.lanes.now) c.loop-lane.lane-index ≡ Some s.lane) c.lane-item.is (next_there _ _ _ _ _ c.loop-lane.invariant.0 (below_lanes c.args.lanes.now c.loop-lane.lane-index c.loop-lane-test.true) (lane_index c.loop-lane.lanes c.loop-lane.lane-index c.lane-item.result c.lane-item.is)))
    c.in_err-span.ensures.err c.maintain.ensures.holds)

pub returns-in_err-span-clause-shelves : goal.returns-in_err-span-clause-shelves
returns-in_err-span-clause-shelves g c = shelves_set c.loop-lane.lanes c.loop-lane.lane-index c.maintain.new.lane c.lane-item.result c.maintain.ensures.shelf ∙ c.loop-lane.invariant.1

pub returns-in_err-push-clause-passed : goal.returns-in_err-push-clause-passed
returns-in_err-push-clause-passed g c =
    subst (MayHaveAllPassed (lanes_in c.args.lanes.now)) (sym (lanes_set c.loop-lane.lanes c.loop-lane.lane-index c.maintain.new.lane))
    (passed_cut _ _ _ _ _ _ c.loop-lane.invariant.0
    (subst (λ (s : ShownLane). slice_get (lanes_in c.args.lanes.now) c.loop-lane.lane-index ≡ Some s.lane) c.lane-item.is (next_there _ _ _ _ _ c.loop-lane.invariant.0 (below_lanes c.args.lanes.now c.loop-lane.lane-index c.loop-lane-test.true) (lane_index c.loop-lane.lanes c.loop-lane.lane-index c.lane-item.result c.lane-item.is)))
    (inr ((c.in_ok-span.ensures.ok).spans).pass) c.maintain.ensures.holds)

pub returns-in_err-push-clause-shelves : goal.returns-in_err-push-clause-shelves
returns-in_err-push-clause-shelves g c = shelves_set c.loop-lane.lanes c.loop-lane.lane-index c.maintain.new.lane c.lane-item.result c.maintain.ensures.shelf ∙ c.loop-lane.invariant.1

pub loop-lane-preserved : goal.loop-lane-preserved
loop-lane-preserved g c = (
  passed-more-in c.loop-lane.lane-index (lanes_in c.args.lanes.now) c.loop-lane.lanes _ _ c.maintain.new.lane c.loop-lane.invariant.0
      (subst (λ (s : ShownLane). slice_get (lanes_in c.args.lanes.now) c.loop-lane.lane-index ≡ Some s.lane) c.lane-item.is (next_there _ _ _ _ _ c.loop-lane.invariant.0 (below_lanes c.args.lanes.now c.loop-lane.lane-index c.loop-lane-test.true) (lane_index c.loop-lane.lanes c.loop-lane.lane-index c.lane-item.result c.lane-item.is)))
      _ _ c.in_ok-span.ensures.ok c.maintain.ensures.holds c.in_ok-push.ensures.items,
  shelves_set c.loop-lane.lanes c.loop-lane.lane-index c.maintain.new.lane c.lane-item.result c.maintain.ensures.shelf ∙ c.loop-lane.invariant.1,
)

pub returns-clause-passed : goal.returns-clause-passed
returns-clause-passed g c = all_passed _ _ _ _ c.loop-lane.invariant.0

pub returns-clause-shelves : goal.returns-clause-shelves
returns-clause-shelves g c = c.loop-lane.invariant.1

use Rattle.std.proofs.Common.{◌≡◌, length, reverse, sym, ap, ◌∙◌, arith}
use Rattle.std.specs.Vec.Iter.{into_iter_items, into_iter_len}
use Rattle.session_segments.proofs.LaneRuns.{nothing_left, all_put}
use Rattle.session_segments.proofs.running.ready_lanes.Goals as goal

pub returns-clause-lanes : goal.returns-clause-lanes
returns-clause-lanes g c =
    let left = into_iter_items c.loop-lane.lane-iterator in
    let size : into_iter_len c.loop-lane.lane-iterator ≡ length left = omega (arith, c.loop-lane.lane-iterator.rest.ok) in
    all_put _ left _ c.loop-lane.invariant.2 (nothing_left left (sym size ∙ c.in-None.ensures.steps.0))

pub returns-clause-lists : goal.returns-clause-lists
returns-clause-lists g c =
    let left = into_iter_items c.loop-lane.lane-iterator in
    let size : into_iter_len c.loop-lane.lane-iterator ≡ length left = omega (arith, c.loop-lane.lane-iterator.rest.ok) in
    let none : length left ≡ 0 = sym size ∙ c.in-None.ensures.steps.0 in
    all_put _ (reverse c.loop-lane.lists.items) _ c.loop-lane.invariant.3 (ap reverse (nothing_left c.loop-lane.lists.items (c.loop-lane.invariant.4 ∙ none)))

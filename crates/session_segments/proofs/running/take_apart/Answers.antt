use Rattle.std.proofs.Common.{◌≡◌, length, map, sym, ap, ◌∙◌, arith}
use Rattle.std.specs.Vec.Iter.{into_iter_items, into_iter_len}
use Rattle.lane_locks.specs.declared.lanes.FedLane.{FedLane}
use Rattle.session_segments.proofs.LaneRuns.{nothing_left, all_put}
use Rattle.session_segments.proofs.running.take_apart.Goals as goal

pub returns-clause-lanes : goal.returns-clause-lanes
returns-clause-lanes g c =
    let left = into_iter_items c.loop-one.one-iterator in
    let size : into_iter_len c.loop-one.one-iterator ≡ length left = omega (arith, c.loop-one.one-iterator.rest.ok) in
    all_put _ _ _ c.loop-one.invariant.2 (ap (map (λ (f : FedLane _ _ _ _). f.lane)) (nothing_left left (sym size ∙ c.in-None.ensures.steps.0)))

pub returns-clause-stages : goal.returns-clause-stages
returns-clause-stages g c =
    let left = into_iter_items c.loop-one.one-iterator in
    let size : into_iter_len c.loop-one.one-iterator ≡ length left = omega (arith, c.loop-one.one-iterator.rest.ok) in
    all_put _ _ _ c.loop-one.invariant.3 (ap (map (λ (f : FedLane _ _ _ _). f.stages.items)) (nothing_left left (sym size ∙ c.in-None.ensures.steps.0)))

use Rattle.std.proofs.Common.{◌≡◌, length, map, sym, ap, ◌∙◌, arith}
use Rattle.std.specs.Vec.Iter.{into_iter_items, into_iter_len}
use Rattle.lane_locks.specs.declared.lanes.ReadyLane.{ReadyLane}
use Rattle.session_segments.proofs.LaneRuns.{nothing_left, all_put}
use Rattle.session_segments.proofs.running.take_back.Goals as goal

pub returns : goal.returns
returns g c =
    let left = into_iter_items c.loop-one.one-iterator in
    let size : into_iter_len c.loop-one.one-iterator ≡ length left = omega (arith, c.loop-one.one-iterator.rest.ok) in
    all_put _ _ _ c.loop-one.invariant.2 (ap (map (λ (r : ReadyLane _ _ _ _). r.lane)) (nothing_left left (sym size ∙ c.in-None.ensures.steps.0)))

use Rattle.std.proofs.Common.{◌∙◌}
use Rattle.shelves.proofs.Showing.{takes_next}
use Rattle.lane_states.proofs.settling.hand_over_list.Goals as goal

pub loop-first-preserved : goal.loop-first-preserved
loop-first-preserved g c = (
  rw c.all-left.ensures (takes_next _ _ _ _ _ _ _ _ _ c.in-Some.first c.in-Some.ensures c.in_default-append.ensures.taken c.loop-first.invariant.0),
  c.append.ensures.name ∙ c.loop-first.invariant.1,
)

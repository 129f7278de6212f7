use Rattle.std.proofs.Common.{◌∙◌}
use Rattle.shelves.proofs.Showing.{takes_next}
use Rattle.shelves.proofs.settling.hand_over.Goals as goal

pub loop-change-preserved : goal.loop-change-preserved
loop-change-preserved g c = (
  takes_next _ _ _ _ _ _ _ _ _ c.in-Some.change c.in-Some.ensures.items c.in_default-append.ensures.taken c.loop-change.invariant.0,
  c.append.ensures.name ∙ c.loop-change.invariant.1,
)

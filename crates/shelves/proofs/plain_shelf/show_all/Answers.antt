use Rattle.shelves.proofs.ViewSteps.{part_more}
use Rattle.shelves.proofs.plain_shelf.show_all.Goals as goal

pub loop-change-preserved : goal.loop-change-preserved
loop-change-preserved c = part_more _ _ _ _ _ _ _ c.in-Some.ensures.item.3.0 c.in-Some.ensures.lookup c.drop_first.ensures.rest c.in_ok-change.ensures.ok c.loop-change.invariant

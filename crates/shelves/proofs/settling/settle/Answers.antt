use Rattle.shelves.proofs.Showing.{takes_on}
use Rattle.shelves.proofs.settling.settle.Goals as goal

pub returns-clause-taken : goal.returns-clause-taken
returns-clause-taken g c = takes_on _ _ _ _ _ _ _ _ c.publish.ensures.shown c.hand_over.ensures.taken

use Rattle.std.proofs.Common.{arith}
use Rattle.pieces.proofs.PlaceLaws.{none-run}
use Rattle.pieces.proofs.places.first_met.Goals as goal

pub returns-else-from-to-clause-none : goal.returns-else-from-to-clause-none
returns-else-from-to-clause-none c = none-run _ _ _ _ c.run_of-from.ensures.run (let n = c.if-from-to.false in omega arith)

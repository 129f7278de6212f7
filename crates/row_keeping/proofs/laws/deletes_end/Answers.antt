use Rattle.row_keeping.proofs.Ends.{over-next}
use Rattle.row_keeping.proofs.laws.deletes_end.Goals as goal

pub returns : goal.returns
returns c = over-next

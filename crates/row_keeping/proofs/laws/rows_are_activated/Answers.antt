use Rattle.row_keeping.proofs.Changes.{activate-next}
use Rattle.row_keeping.proofs.laws.rows_are_activated.Goals as goal

pub returns : goal.returns
returns c = activate-next

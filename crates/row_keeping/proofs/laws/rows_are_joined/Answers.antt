use Rattle.row_keeping.proofs.Joins.{join-next}
use Rattle.row_keeping.proofs.laws.rows_are_joined.Goals as goal

pub returns : goal.returns
returns c = join-next

use Rattle.row_keeping.proofs.Splits.{split-next}
use Rattle.row_keeping.proofs.laws.rows_are_split.Goals as goal

pub returns : goal.returns
returns c = split-next

use Rattle.row_keeping.proofs.Changes.{delete-next}
use Rattle.row_keeping.proofs.laws.deletes_begin.Goals as goal

pub returns : goal.returns
returns c = delete-next

use Rattle.row_keeping.proofs.Accepting.{keeps-accepted}
use Rattle.row_keeping.proofs.laws.acceptances_are_kept.Goals as goal

pub returns : goal.returns
returns c = keeps-accepted

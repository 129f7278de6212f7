use Rattle.pass_runs.proofs.Ending.{pass_ends}
use Rattle.pass_runs.proofs.laws.passes_end.Goals as goal

pub returns : goal.returns
returns c = λ s still first v made notes ns sound x. pass_ends s still first v made notes ns sound x

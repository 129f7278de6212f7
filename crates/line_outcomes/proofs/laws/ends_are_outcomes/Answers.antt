use Rattle.line_outcomes.proofs.Ending.{ends-so}
use Rattle.line_outcomes.proofs.laws.ends_are_outcomes.Goals as goal

pub returns : goal.returns
returns c = λ lane rules line o from J x legal short w. ends-so lane rules line o from J x legal short w

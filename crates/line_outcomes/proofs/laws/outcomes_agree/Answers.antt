use Rattle.line_outcomes.proofs.Agreeing.{outcome-same}
use Rattle.line_outcomes.proofs.laws.outcomes_agree.Goals as goal

pub returns : goal.returns
returns c = λ acks line o from J x y a b. outcome-same acks line o from J x y a b

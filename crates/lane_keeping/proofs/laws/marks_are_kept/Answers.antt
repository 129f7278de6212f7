use Rattle.lane_keeping.proofs.Marks.{keeps-ended, keeps-acked}
use Rattle.lane_keeping.proofs.laws.marks_are_kept.Goals as goal

pub returns-clause-ended : goal.returns-clause-ended
returns-clause-ended c = λ lane rules J newest last nodes parts keep now d s bucket complete a x others step. keeps-ended lane rules J newest last nodes parts now keep d s a others bucket complete x step

pub returns-clause-acked : goal.returns-clause-acked
returns-clause-acked c = λ lane rules J newest last nodes parts keep now d s line key answered id t a x others begun is counted step. keeps-acked lane rules J newest last nodes parts now keep d s a others line key answered id t x begun is counted step

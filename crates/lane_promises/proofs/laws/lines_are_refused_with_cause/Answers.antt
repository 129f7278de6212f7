use Rattle.lane_promises.proofs.Refusals.{refused_with_cause}
use Rattle.lane_promises.proofs.laws.lines_are_refused_with_cause.Goals as goal

pub returns : goal.returns
returns c = refused_with_cause

use Rattle.operation_keeping.proofs.Receivers.{complete-enough}
use Rattle.operation_keeping.proofs.want_laws.rounds_reach_enough.Goals as goal

pub returns : goal.returns
returns c = complete-enough

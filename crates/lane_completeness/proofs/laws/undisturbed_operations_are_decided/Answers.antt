use Rattle.lane_completeness.proofs.Completeness.{is-decided}
use Rattle.lane_completeness.proofs.laws.undisturbed_operations_are_decided.Goals as goal

pub returns : goal.returns
returns c = is-decided

use Rattle.lane_completeness.proofs.Completeness.{has-cause, has-cause-since}
use Rattle.lane_completeness.proofs.laws.too_few_has_its_cause.Goals as goal

pub returns : goal.returns
returns c = record { alone = has-cause; since = has-cause-since }

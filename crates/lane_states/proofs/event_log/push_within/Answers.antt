use Rattle.lane_states.proofs.LaneSteps.{past-push}
use Rattle.lane_states.proofs.event_log.push_within.Goals as goal

pub returns-clause-past : goal.returns-clause-past
returns-clause-past c = rw c.in-Ok.ensures.items (past-push _ _)

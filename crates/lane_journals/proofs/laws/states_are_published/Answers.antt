use Rattle.lane_journals.proofs.Meant.{state-serves}
use Rattle.lane_journals.proofs.Published.{may-publish, not-refused}
use Rattle.lane_journals.proofs.States.{legal-states, states-agree}
use Rattle.lane_journals.proofs.laws.states_are_published.Goals as goal

pub returns : goal.returns
returns c = record { states = legal-states; given = states-agree; accepted = may-publish; refused = not-refused; serve = state-serves }

use Rattle.lane_core.proofs.Undisturbed.{undisturbed}
use Rattle.lane_core.proofs.lane.undisturbed_upkeeps_rest.Goals as goal

pub returns : goal.returns
returns c = λ old new answer was is h u. undisturbed c.messages_are_carried.ensures.last c.messages_are_carried.ensures.returned c.states_are_published.ensures.serve c.upkeep_goes_on.ensures.behind c.upkeep_leaves_states.ensures.state c.upkeep_leaves_states.ensures.stopped old new answer was is h u

use Rattle.lane_completeness.proofs.Returning.{lost}
use Rattle.lane_completeness.proofs.laws.unheard_messages_are_lost.Goals as goal

pub returns : goal.returns
returns c = lost

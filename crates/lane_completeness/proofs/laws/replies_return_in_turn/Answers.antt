use Rattle.lane_completeness.proofs.Returning.{in-turn}
use Rattle.lane_completeness.proofs.laws.replies_return_in_turn.Goals as goal

pub returns : goal.returns
returns c = λ given J K carried. in-turn J given K carried

use Rattle.lane_calls.proofs.Answering.{once-answers, one-answers, none-answers, idle-answers}
use Rattle.lane_calls.proofs.laws.lines_are_answered_once.Goals as goal

pub returns : goal.returns
returns c = record { once = once-answers; one = one-answers; none = none-answers; idle = idle-answers }

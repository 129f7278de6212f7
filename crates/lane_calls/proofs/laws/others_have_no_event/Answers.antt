use Rattle.lane_calls.proofs.Ordering.{others-none}
use Rattle.lane_calls.proofs.laws.others_have_no_event.Goals as goal

pub returns : goal.returns
returns c = λ feeders lines lane rules J K grew n none after e before is le. others-none feeders lines lane rules n none J K grew after e before is le

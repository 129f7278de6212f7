use Rattle.lane_calls.proofs.Growing.{grows-later, grows-steps}
use Rattle.lane_calls.proofs.laws.steps_stand.Goals as goal

pub returns : goal.returns
returns c = record {
  later = λ feeders lines lane rules J K grew. grows-later feeders lines lane rules J K grew;
  steps = λ feeders lines lane rules J K grew after e before is le. grows-steps feeders lines lane rules J K grew after e before is le;
}

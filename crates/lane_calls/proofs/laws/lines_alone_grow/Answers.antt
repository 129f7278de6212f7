use Rattle.lane_calls.proofs.Alone.{alone-grows}
use Rattle.lane_calls.proofs.Growing.{grows-twice}
use Rattle.lane_calls.proofs.laws.lines_alone_grow.Goals as goal

pub returns : goal.returns
returns c = record {
  alone = λ feeders lines lane rules line J K next legal c. alone-grows feeders lines lane rules line J K next legal c;
  twice = λ feeders lines lane rules I J K a b. grows-twice feeders lines lane rules I J K a b;
}

use Rattle.lane_calls.proofs.Ordering.{closed-courses}
use Rattle.lane_calls.proofs.Wanted.{ended-wanted}
use Rattle.lane_calls.proofs.laws.lines_go_their_courses.Goals as goal

pub returns : goal.returns
returns c = record {
  ended = λ feeders lines lane rules J K grew after n x before is le. closed-courses feeders lines lane rules J K grew after n x before is le;
  wanted = λ lane rules line J x ended. ended-wanted lane rules line J x ended;
}

use Rattle.std.proofs.Common.{refl}
use Rattle.lane_locks.proofs.Calls.{hear-call, begin-call, advance-call, close-call}
use Rattle.lane_locks.proofs.laws.lanes_call.Goals as goal

pub returns : goal.returns
returns c = record {
  hear = λ feeders lines v w owner state answer newest owns h. hear-call feeders lines v w owner state answer newest owns h;
  begin = λ feeders lines v w line answer next b. begin-call feeders lines v w line line.via answer refl next b;
  advance = λ feeders lines v w line answer a. advance-call feeders lines v w line answer a;
  close = λ feeders lines v w line outcome c. close-call feeders lines v w line outcome c;
}

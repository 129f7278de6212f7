use Rattle.round_keeping.proofs.Beginning.{none-unopened, legal, knows}
use Rattle.lane_keeping.specs.LaneKeeping.{setting_of}
use Rattle.round_keeping.proofs.laws.rounds_begin.Goals as goal

pub returns : goal.returns
returns c = record {
  unopened = λ lane rules J newest last nodes parts keep s un b. none-unopened (setting_of lane rules) J keep.legal s.version un b;
  legal = legal;
  knows = knows;
}

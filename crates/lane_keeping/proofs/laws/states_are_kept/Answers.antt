use Rattle.lane_keeping.proofs.Pushes.{keeps-published}
use Rattle.lane_keeping.proofs.Asking.{heard-newest}
use Rattle.lane_keeping.proofs.laws.states_are_kept.Goals as goal

pub returns : goal.returns
returns c = record {
  published = λ lane rules J newest last nodes parts keep s step. keeps-published lane rules J newest last nodes parts s keep step;
  heard = heard-newest;
}

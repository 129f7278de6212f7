use Rattle.lane_keeping.specs.LaneKeeping.{setting_of}
use Rattle.round_keeping.proofs.Ending.{ends, over, still-known}
use Rattle.round_keeping.proofs.laws.rounds_end.Goals as goal

pub returns : goal.returns
returns c = record {
  legal = λ lane rules J newest last nodes parts keep d s r act know. ends (setting_of lane rules) J keep.legal d s r act know;
  over = λ lane rules J newest last nodes parts keep d s r act know. over (setting_of lane rules) J keep.legal d s r act know;
  answers = λ lane rules J newest last nodes parts keep d s r act know. still-known (setting_of lane rules) J keep.legal d s r act know;
}

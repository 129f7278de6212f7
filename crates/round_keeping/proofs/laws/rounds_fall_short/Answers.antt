use Rattle.lane_keeping.specs.LaneKeeping.{setting_of}
use Rattle.round_keeping.proofs.Short.{size_of-count, counted-short, reads-short, applies-short}
use Rattle.round_keeping.proofs.laws.rounds_fall_short.Goals as goal

pub returns : goal.returns
returns c = record {
  reads = λ lane rules J newest last nodes parts keep d s r act know missing shown all absent are same unseen.
      reads-short (setting_of lane rules) J keep.legal s act.published r know missing shown absent are unseen all same;
  counted = λ lane rules J newest last nodes parts keep d s r act know. counted-short (setting_of lane rules) J keep.legal s act.published r know;
  applies = λ lane rules J newest last nodes parts keep d s r act know. applies-short (setting_of lane rules) J keep.legal s act.published r know;
  sizes = size_of-count;
}

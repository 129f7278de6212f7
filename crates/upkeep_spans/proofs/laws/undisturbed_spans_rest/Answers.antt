use Rattle.upkeep_spans.proofs.Rested.{was_undisturbed, has_rested}
use Rattle.upkeep_spans.proofs.laws.undisturbed_spans_rest.Goals as goal

pub returns : goal.returns
returns c = record {
  rested = was_undisturbed;
  undisturbed = has_rested;
}

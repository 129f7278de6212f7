use Rattle.upkeep_spans.proofs.Kept as kept
use Rattle.upkeep_spans.proofs.laws.upkeep_leaves_states.Goals as goal

pub returns : goal.returns
returns c = record {
  published = kept.published-stays;
  known = kept.known-stays;
  states = kept.states-stays;
  state = kept.state-stays;
  held = kept.held-stays;
  stopped = kept.stopped-stays;
}

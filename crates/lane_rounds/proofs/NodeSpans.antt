-- What the nodes of a lane go through as a state is opened and a round run.
use Rattle.std.proofs.Common.{◌≡◌, ℕ}
use Rattle.lane_keeping.specs.LaneKeeping.{node_in}
use Rattle.lane_states.specs.declared.lane_state.LaneState.{LaneState}
use Rattle.lane_rounds.specs.declared.opening.OpeningStep.{OpeningStep}
use Rattle.lane_rounds.specs.declared.opening.OpeningStep.TheVariants as step
use Rattle.lane_states.specs.LaneStates.{NodesOn}
use Rattle.lane_rounds.specs.Openings.{IsNext}
use Rattle.lane_states.proofs.NodeSpans.{on-same, on-event}

pub on-next : (c e : LaneState) (d : ℕ) (s : OpeningStep) → IsNext c e d s → ((n : ℕ) → node_in e.nodes.items n ≡ node_in c.nodes.items n) → NodesOn c e
on-next c e d (step.Asks m) h same = on-same c e h.same same
on-next c e d step.Opened h same = on-event c e _ tt h.grows same
on-next c e d (step.Lacks missing) h same = on-same c e h.same same

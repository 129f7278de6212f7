-- What the laws say of the owner's decisions and messages.
use Rattle.std.specs.Prelude.{ℕ, List}
use Rattle.cluster_states.specs.declared.cluster_state.ClusterState.{ClusterState}
use Rattle.messages.specs.declared.decision.Decision.{Decision}
use Rattle.distributor_part.specs.declared.rules.Rules.{Rules}
use Rattle.distributor_part.specs.Parts.{Part}
use Rattle.lane_journals.specs.declared.event.LaneEvent.{LaneEvent}
use Rattle.lane_journals.specs.declared.event.LaneEvent.TheVariants.{Decided}
use Rattle.lane_keeping.specs.LaneKeeping.{part_in}
use Rattle.lane_keeping.specs.Laws.{OfKept, IsKeptNext}
use Rattle.row_keeping.specs.Deciding.{IsDeciding}

-- a law of each lane whose owner's part p becomes q; Next says that the decision may come next, and that the lane
-- keeps the longer journal with q
abbrev pub OfDeciding : (Rules → List LaneEvent → ClusterState → Part → Part → (Decision → Type 0) → Type 0) → Type 0
OfDeciding L = OfKept (λ lane rules J newest last nodes parts. (now : List Part) (d : ℕ) (s : ClusterState)
    → IsDeciding lane rules J parts now d s
    → L rules J s (part_in lane rules parts d) (part_in lane rules now d) (λ x. IsKeptNext lane rules J newest last nodes now (Decided d s.version x)))

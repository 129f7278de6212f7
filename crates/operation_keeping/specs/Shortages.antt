-- With what a line ends before it is prepared.
use Rattle.std.specs.Prelude.{◌≡◌, ◌⊎◌, ℕ, List}
use Rattle.cluster_states.specs.declared.cluster_state.ClusterState.{ClusterState}
use Rattle.messages.specs.declared.outcome.Outcome.{Outcome}
use Rattle.messages.specs.declared.outcome.Outcome.TheVariants.{TooFew, NoMemory}
use Rattle.lane_journals.specs.Meanings.{history}
use Rattle.lane_journals.specs.declared.event.LaneEvent.{LaneEvent}
use Rattle.operation_keeping.specs.OperationKeeping.{WasShort}

-- fewer than are wanted
abbrev pub IsTooFew : Outcome → Type 0
IsTooFew x = (have : ℕ) × (wanted : ℕ) × (absent : ℕ) × (x ≡ TooFew have wanted absent)

-- too few, or a node that was sent a message of the version since the line began wanted memory
abbrev pub FallsShort : List LaneEvent → ℕ → ClusterState → Outcome → Type 0
FallsShort J line s x = IsTooFew x ⊎ ((x ≡ NoMemory) × WasShort (history J) line (λ m. m.version ≡ s.version))

-- What a call of an operation that is prepared comes to: the phase, and the answer.
use Rattle.std.specs.Prelude.{◌≡◌, ◌≤◌, ◌+◌, ℕ, Bool, List, Option, None, Some}
use Rattle.bucket_ids.specs.Buckets.{Low}
use Rattle.carriers.specs.declared.fate.Fate.{Fate}
use Rattle.messages.specs.declared.message.Message.{Message}
use Rattle.messages.specs.declared.outcome.Outcome.{Outcome}
use Rattle.op_machine.specs.declared.machine.Standing.{Standing}
use Rattle.op_machine.specs.Outcomes.{Asks, Finishes, outcome_in}
use Rattle.op_machine.specs.Standings.{next_at}
use Rattle.operation_keeping.specs.Left.{messages_left}
use Rattle.lane_states.specs.declared.lane_state.LaneState.{LaneState}
use Rattle.lane_calls.specs.declared.answers.Advance.{Advance}
use Rattle.lane_calls.specs.declared.answers.Advance.TheVariants as advance
use Rattle.lane_core.specs.declared.work.Job.{Job}
use Rattle.lane_core.specs.declared.work.Phase.{Phase}
use Rattle.lane_core.specs.declared.work.Phase.TheVariants.{Prepared, Over, Short}
use Rattle.lane_core.specs.declared.work.Work.{Work}
use Rattle.lane_core.specs.Advancing.{AdvancesAt}
use Rattle.lane_core.specs.Works.{value_of, OfJob}
use Rattle.lane_lines.specs.Steps.{StandsIn}

-- it wants one more message, with one less left
pub record WantsMore (c : LaneState) (line : ℕ) (row : Low) (written : Bool) (t x : Standing) : Type 0 where
  pub message : Message
  pub next : next_at x ≡ Asks message
  pub stands : StandsIn c line row written x
  pub same_plan : x.plan ≡ t.plan
  pub fewer : messages_left x + 1 ≡ messages_left t
  pub some : 1 ≤ messages_left x

-- it is over, with this outcome
pub record WantsEnd (c : LaneState) (line : ℕ) (row : Low) (t : Standing) (outcome told : Outcome) (answered : ℕ) : Type 0 where
  pub standing : Standing
  pub written : Bool
  pub stands : StandsIn c line row written standing
  pub same_plan : standing.plan ≡ t.plan
  pub finished : next_at standing ≡ Finishes outcome
  pub same : told ≡ outcome
  pub answered_is : answered ≡ standing.stores.answered

-- the phase in which the operation of the machine is over, where it has an outcome
abbrev pub HasEnded : Standing → Option Phase → Type 0
HasEnded t None = outcome_in (next_at t) ≡ None
HasEnded t (Some (Over outcome told answered)) = (outcome_in (next_at t) ≡ Some outcome) × (told ≡ outcome) × (answered ≡ t.stores.answered)
HasEnded t (Some _) = ⊥

-- the phase of a machine, and the answer
abbrev pub IsPhaseOf : Low → Bool → Standing → Phase → Advance → Type 0
IsPhaseOf row written t (Prepared machine r w) advance.More = (r ≡ row) × (w ≡ written) × (machine ≡ t) × (outcome_in (next_at t) ≡ None)
IsPhaseOf row written t (Over outcome told answered) advance.Done = (outcome_in (next_at t) ≡ Some outcome) × (told ≡ outcome) × (answered ≡ t.stores.answered)
IsPhaseOf row written t Short advance.NoMemory = Unit {0}
IsPhaseOf row written t _ _ = ⊥

-- the operation is prepared, and this holds of its row, whether its entry is written, and its machine
abbrev pub OfPrepared : (Low → Bool → Standing → Type 0) → Phase → Type 0
OfPrepared P (Prepared machine row written) = P row written machine
OfPrepared P _ = ⊥

-- the phase that a call comes to, and its answer
abbrev pub ComesTo : LaneState → ℕ → Low → Standing → Phase → Advance → Type 0
ComesTo c line row t (Prepared machine r written) advance.More = (r ≡ row) × WantsMore c line row written t machine
ComesTo c line row t (Over outcome told answered) advance.Done = WantsEnd c line row t outcome told answered
ComesTo c line row t Short advance.NoMemory = Unit {0}
ComesTo c line row t _ _ = ⊥

abbrev pub IsAtMessages : Phase → Type 0
IsAtMessages (Prepared machine row written) = Unit {0}
IsAtMessages _ = ⊥

-- the operation at the place is prepared
abbrev pub IsToStep : List Job → ℕ → Type 0
IsToStep jobs at = OfJob (λ j. IsAtMessages j.phase) jobs at

-- what a call made of the lane's value, whatever was planned
abbrev pub AdvancesBy : ℕ → Work → Work → List Fate → List Fate → Advance → Type 0
AdvancesBy at old new given now answer = (planned : List Fate) (takes_plans : Bool) → AdvancesAt at (value_of old given planned takes_plans) (value_of new now planned takes_plans) answer

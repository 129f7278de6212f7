-- A line that asks for an operation in a lane, and what it makes of the lane's journal where it is carried out alone.
use Rattle.std.specs.Prelude.{◌≡◌, ◌≢◌, ◌⊎◌, ℕ, ◌<◌, List, [], ◌∷◌, Option, None, Some}
use Rattle.bucket_ids.specs.Buckets.{Low}
use Rattle.cluster_states.specs.declared.cluster_state.ClusterState.{ClusterState}
use Rattle.distributor_part.specs.declared.rules.Rules.{Rules}
use Rattle.ideal_nodes.specs.Placement.{IsOwner}
use Rattle.messages.specs.declared.operation.Operation.{Operation}
use Rattle.messages.specs.declared.outcome.Outcome.{Outcome}
use Rattle.messages.specs.declared.outcome.Outcome.TheVariants.{OwnedElsewhere, NoMemory}
use Rattle.lane_journals.specs.Readers.{held}
use Rattle.lane_journals.specs.Meanings.{history}
use Rattle.lane_journals.specs.Places.{state_in}
use Rattle.lane_journals.specs.declared.event.LaneEvent.{LaneEvent}
use Rattle.lane_journals.specs.declared.event.LaneEvent.TheVariants.{Begun, Refused, Closed}
use Rattle.lane_keeping.specs.Tidings.{heard_next, last_state}
use Rattle.operation_keeping.specs.Wants.{IsRun, IsCutRun, IsEnd}
use Rattle.lane_calls.specs.LaneValues.{drawn}

-- ---- one line

-- a line that asks for an operation, perhaps at a distributor that it names
pub record FeedLine : Type 0 where
  pub number : ℕ
  pub operation : Operation
  pub via : Option ℕ

-- from where it was begun, the operation did what it wanted next until it wanted to end so; or memory was wanted,
-- and it ends with that
abbrev pub RunsTo : Low → Rules → ℕ → Operation → List LaneEvent → List LaneEvent → Outcome → Type 0
RunsTo lane rules line o J K outcome =
    (IsRun lane rules line o J K × IsEnd lane rules line o K outcome) ⊎ (IsCutRun lane rules line o J K × (outcome ≡ NoMemory))

-- the journal once the line's operation was begun at a distributor under a state
abbrev pub begun_at : FeedLine → ℕ → ClusterState → List LaneEvent → List LaneEvent
begun_at line d state J = Begun line.number d state.version (line.operation).id (drawn (line.operation).kind state.version J) ∷ J

-- the line's operation is begun at the distributor under the state, does what it wants, and is closed with its outcome
pub record IsRunAt (lane : Low) (rules : Rules) (line : FeedLine) (d : ℕ) (state : ClusterState) (J K : List LaneEvent) : Type 0 where
  pub run : List LaneEvent
  pub outcome : Outcome
  pub runs : RunsTo lane rules line.number line.operation (begun_at line d state J) run outcome
  pub closed : K ≡ Closed line.number outcome ∷ run

-- it is that at the lane's owner under the newest state, which first hears that state
pub record IsRunAtOwner (lane : Low) (rules : Rules) (line : FeedLine) (J K : List LaneEvent) : Type 0 where
  pub state : ClusterState
  pub newest : last_state J ≡ Some state
  pub owner : ℕ
  pub owns : IsOwner lane state owner
  pub run : IsRunAt lane rules line owner state (heard_next owner (Some state) J) K

-- the line is refused at the distributor, since another one owns the lane under the state
pub record IsRefused (lane : Low) (line : FeedLine) (d : ℕ) (state : ClusterState) (J K : List LaneEvent) : Type 0 where
  pub not_owner : IsOwner lane state d → ⊥
  pub owner : ℕ
  pub owns : IsOwner lane state owner
  pub refused : K ≡ Refused line.number d (OwnedElsewhere owner state.version) ∷ J

-- the line goes to the distributor: its operation runs there if that one owns the lane under the state that it
-- holds, else it is refused; nobody hears a state
pub record IsRunVia (lane : Low) (rules : Rules) (line : FeedLine) (d : ℕ) (J K : List LaneEvent) : Type 0 where
  pub state : ClusterState
  pub holds : held d (history J) ≡ Some state.version
  pub published : state_in state.version J ≡ Some state
  pub ends : (IsOwner lane state d × IsRunAt lane rules line d state J K) ⊎ IsRefused lane line d state J K

-- the line goes to the distributor that it names, or else to the owner
abbrev pub IsCarriedOut : Low → Rules → FeedLine → Option ℕ → List LaneEvent → List LaneEvent → Type 0
IsCarriedOut lane rules line None J K = IsRunAtOwner lane rules line J K
IsCarriedOut lane rules line (Some d) J K = IsRunVia lane rules line d J K

-- ---- lines

abbrev pub Lines : Type 0
Lines = List FeedLine

-- the number of the last line, 0 before the first
abbrev pub last_line : Lines → ℕ
last_line [] = 0
last_line (line ∷ lines) = line.number

-- each line has a greater number than those before it
abbrev pub AreRising : Lines → Type 0
AreRising [] = Unit {0}
AreRising (line ∷ lines) = (last_line lines < line.number) × AreRising lines

-- the number is that of none of the lines
abbrev pub IsNone : ℕ → Lines → Type 0
IsNone j [] = Unit {0}
IsNone j (line ∷ lines) = (j ≢ line.number) × IsNone j lines

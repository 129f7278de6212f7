-- What the operation of one line did in a segment, with what others did in between.
use Rattle.std.specs.Prelude.{◌≡◌, ℕ, List, ◌∷◌, Option, None, Some, IsSome}
use Rattle.bucket_ids.specs.Buckets.{Low}
use Rattle.cluster_states.specs.declared.cluster_state.ClusterState.{ClusterState}
use Rattle.distributor_part.specs.declared.rules.Rules.{Rules}
use Rattle.ideal_nodes.specs.Placement.{IsOwner}
use Rattle.messages.specs.declared.operation.Operation.{Operation}
use Rattle.messages.specs.declared.outcome.Outcome.{Outcome}
use Rattle.lane_journals.specs.Readers.{Journal, held, sent, returned}
use Rattle.lane_journals.specs.Meanings.{history}
use Rattle.lane_journals.specs.Places.{state_in}
use Rattle.lane_journals.specs.declared.event.LaneEvent.{LaneEvent}
use Rattle.lane_journals.specs.declared.event.LaneEvent.TheVariants as events
use Rattle.lane_keeping.specs.Tidings.{last_state}
use Rattle.operation_keeping.specs.Others.{AreOthers}
use Rattle.operation_keeping.specs.Wants.{IsRun, IsEnd, IsCutRun, IsEndSince}
use Rattle.lane_calls.specs.declared.progress.UnderWay.{UnderWay}
use Rattle.lane_calls.specs.declared.progress.Progress.{Progress}
use Rattle.lane_calls.specs.declared.progress.Progress.TheVariants.{Begun, Over, Short}
use Rattle.lane_calls.specs.LaneValues.{LaneValue, EndsAs, drawn}
use Rattle.lane_calls.specs.Lines.{FeedLine, Lines}
use Rattle.lane_calls.specs.Segments.{IsOfLines, WentTo}

-- ---- its beginning

-- a line goes to the distributor that it names, under the state that this one holds, or else by the newest state
abbrev pub GoesTo : Option ℕ → ℕ → ClusterState → List LaneEvent → Type 0
GoesTo None d s J = last_state J ≡ Some s
GoesTo (Some via) d s J = (d ≡ via) × (state_in s.version J ≡ Some s)

-- the line's operation is begun by the owner under the state that it holds
pub record IsBegun (lane : Low) (line : FeedLine) (J : List LaneEvent) (e : LaneEvent) : Type 0 where
  pub distributor : ℕ
  pub state : ClusterState
  pub goes : GoesTo line.via distributor state J
  pub holds : held distributor (history J) ≡ Some state.version
  pub owns : IsOwner lane state distributor
  pub event : e ≡ events.Begun line.number distributor state.version line.operation.id (drawn line.operation.kind state.version J)

-- ---- its course

-- alone from its beginning on, it did what it wanted until it was over with an outcome that it wants, or memory was wanted
abbrev pub RanTo : Low → Rules → ℕ → Operation → List LaneEvent → List LaneEvent → Progress → Type 0
RanTo lane rules n o J K (Over x) = IsRun lane rules n o J K × IsEnd lane rules n o K x
RanTo lane rules n o J K Short = IsCutRun lane rules n o J K
RanTo lane rules n o J K _ = ⊥

-- no reply came back meanwhile to what was sent before
abbrev pub NoneReturns : List LaneEvent → List LaneEvent → Type 0
NoneReturns J K = (number : ℕ) → IsSome (sent number (history J)) → returned number (history K) ≡ returned number (history J)

-- how far it is, and by which calls it came there
pub data Course (lane : Low) (rules : Rules) (line : FeedLine) : List LaneEvent → Progress → Type 0 where
  Starts : (J : List LaneEvent) (e : LaneEvent) → IsBegun lane line J e → Course lane rules line (e ∷ J) Begun
  -- a call lets it go on
  Goes : (J K : List LaneEvent) (p now : Progress) → Course lane rules line J p → WentTo lane rules line.number line.operation J K now → Course lane rules line K now
  -- others go on, with messages of their own, and states are heard
  Waits : (J K : List LaneEvent) (p : Progress) → Course lane rules line J p → AreOthers line.number line.operation.id J K → NoneReturns J K → Course lane rules line K p
  -- nobody else is there from its beginning on
  Alone : (J K : List LaneEvent) (e : LaneEvent) (now : Progress) → IsBegun lane line J e → RanTo lane rules line.number line.operation (e ∷ J) K now → Course lane rules line K now

-- an operation that is under way is that of one of the lines, and went its course
pub record GoesItsCourse (lines : Lines) (first last : LaneValue) (u : UnderWay) : Type 0 where
  pub of_lines : IsOfLines lines u
  pub course : Course first.lane first.rules of_lines.line last.journal u.progress

-- it came so far that it ends with the outcome
pub record HasEnded (lane : Low) (rules : Rules) (line : FeedLine) (J : List LaneEvent) (outcome : Outcome) : Type 0 where
  pub progress : Progress
  pub course : Course lane rules line J progress
  pub ends : EndsAs progress outcome

-- it wanted to end with the outcome, and since then all is of others, with messages of their own
pub record WantedEnd (lane : Low) (rules : Rules) (line : FeedLine) (J : List LaneEvent) (outcome : Outcome) : Type 0 where
  pub from : Journal
  pub moment : List LaneEvent
  pub wants : IsEndSince lane rules line.number line.operation from moment outcome
  pub since : AreOthers line.number line.operation.id moment J
  pub settled : NoneReturns moment J

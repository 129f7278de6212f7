-- One operation in a lane, from its beginning to its close.
use Rattle.std.specs.Prelude.{◌≡◌, ◌⊎◌, ℕ, List, [], ◌∷◌, Some, IsSome}
use Rattle.cluster_states.specs.declared.cluster_state.ClusterState.{ClusterState}
use Rattle.messages.specs.declared.outcome.Outcome.{Outcome}
use Rattle.lane_journals.specs.declared.event.LaneEvent.{LaneEvent}
use Rattle.lane_journals.specs.declared.event.LaneEvent.TheVariants.{Closed}
use Rattle.lane_calls.specs.LaneValues.{LaneValue, IsLaneValue, under_way_of}
use Rattle.lane_states.specs.LaneStates.{GivesOn}
use Rattle.messages.specs.declared.outcome.Outcome.TheVariants.{NoMemory}
use Rattle.lane_journals.specs.Readers.{prepared}
use Rattle.lane_journals.specs.Meanings.{history}
use Rattle.operation_keeping.specs.Wants.{IsRunSince, IsCutRunSince, IsEndSince}
use Rattle.lane_calls.specs.declared.progress.UnderWay.{UnderWay}
use Rattle.lane_calls.specs.declared.progress.Progress.TheVariants.{Begun, Runs}
use Rattle.lane_calls.specs.Lines.{FeedLine, begun_at, IsCarriedOut}
use Rattle.lane_calls.specs.Readings.{outcome_in}

-- the operation that was under way alone went on to its end, by what it wanted since
pub record Finishes (u : UnderWay) (old new : LaneValue) (outcome : Outcome) : Type 0 where
  pub run : List LaneEvent
  pub runs : (IsRunSince old.lane old.rules u.line u.operation (history old.journal) old.journal run × IsEndSince old.lane old.rules u.line u.operation (history old.journal) run outcome)
      ⊎ (IsCutRunSince old.lane old.rules u.line u.operation (history old.journal) old.journal run × (outcome ≡ NoMemory))
  pub after : new ≡ record old { journal = Closed u.line outcome ∷ run; given = new.given; under_way = [] }
  pub gives : GivesOn old.given new.given

-- the line's operation was begun, and is alone under way
pub record IsAlone (line : ℕ) (v : LaneValue) (u : UnderWay) : Type 0 where
  pub alone : v.under_way ≡ u ∷ []
  pub line_is : u.line ≡ line
  pub begun : u.progress ≡ Begun

abbrev pub HasAlone : ℕ → LaneValue → Type 0
HasAlone line v = (u : UnderWay) × IsAlone line v u

abbrev pub IsFinish : ℕ → LaneValue → LaneValue → Outcome → Type 0
IsFinish line old new outcome = (u : UnderWay) × IsAlone line old u × Finishes u old new outcome

-- it went on so far, and is prepared
pub record GoesOn (u : UnderWay) (old new : LaneValue) : Type 0 where
  pub left : ℕ
  pub after : new ≡ record old { journal = new.journal; given = new.given; under_way = under_way_of u.line u.operation u.distributor Runs left ∷ [] }
  pub gives : GivesOn old.given new.given
  pub run : IsRunSince old.lane old.rules u.line u.operation (history old.journal) old.journal new.journal
  pub prepared_is : IsSome (prepared u.line (history new.journal))

-- nothing was done yet, or it went on
abbrev pub IsGoing : UnderWay → LaneValue → LaneValue → Type 0
IsGoing u old new = (new ≡ old) ⊎ GoesOn u old new

-- so many calls at most are still to come
abbrev pub left_in : List UnderWay → ℕ
left_in [] = 0
left_in (u ∷ us) = u.left

-- the lane once the line's operation was begun at a distributor under a state, from this journal on
abbrev pub begun_with : LaneValue → FeedLine → ℕ → ClusterState → List LaneEvent → LaneValue
begun_with old line d state J = record old { journal = begun_at line d state J; under_way = under_way_of line.number line.operation d Begun 65 ∷ [] }

-- the line was carried out, and this is its outcome
pub record IsLineRun (line : FeedLine) (old new : LaneValue) (outcome : Outcome) : Type 0 where
  pub done : IsCarriedOut old.lane old.rules line line.via old.journal new.journal
  pub outcome_is : outcome_in line.number new.journal ≡ Some outcome
  -- nothing else changed
  pub after : new ≡ record old { journal = new.journal; given = new.given }
  pub gives : GivesOn old.given new.given
  -- its journal is legal, and each message had the events of its fate
  pub holds : IsLaneValue new

-- How a lane's journal grows in a segment, event by event: what comes is of a line that has its turn or is under way, of its
-- distributor as it hears the newest state, or of carriers.
use Rattle.std.specs.Prelude.{◌≡◌, ℕ, List, ◌∷◌, ◌++◌, Some}
use Rattle.bucket_ids.specs.Buckets.{Low}
use Rattle.cluster_states.specs.declared.cluster_state.ClusterState.{ClusterState}
use Rattle.distributor_part.specs.declared.rules.Rules.{Rules}
use Rattle.ideal_nodes.specs.Placement.{IsOwner}
use Rattle.messages.specs.declared.outcome.Outcome.{Outcome}
use Rattle.lane_journals.specs.Readers.{held}
use Rattle.lane_journals.specs.Meanings.{history}
use Rattle.lane_journals.specs.Places.{state_in}
use Rattle.lane_journals.specs.declared.event.LaneEvent.{LaneEvent}
use Rattle.lane_journals.specs.declared.event.LaneEvent.TheVariants.{Heard, Closed}
use Rattle.lane_keeping.specs.Tidings.{last_state}
use Rattle.operation_keeping.specs.Wants.{Adds, WantsSince, IsCarriage, IsCutRound}
use Rattle.lane_calls.specs.Lines.{FeedLine, Lines, IsRefused}
use Rattle.lane_calls.specs.Segments.{IsAmong, IsNext}
use Rattle.lane_calls.specs.Courses.{IsBegun, HasEnded}

-- the second is what the first became
pub record IsLater (J K : List LaneEvent) : Type 0 where
  pub added : List LaneEvent
  pub is : K ≡ added ++ J

-- ---- one event

-- the owner under the newest state hears it
pub record IsHeard (lane : Low) (J : List LaneEvent) (e : LaneEvent) : Type 0 where
  pub distributor : ℕ
  pub state : ClusterState
  pub newest : last_state J ≡ Some state
  pub owns : IsOwner lane state distributor
  pub event : e ≡ Heard distributor state.version

-- the distributor that the line names refuses it, since another one owns the lane under the state that it holds
pub record IsTurnedAway (lane : Low) (line : FeedLine) (J : List LaneEvent) (e : LaneEvent) : Type 0 where
  pub distributor : ℕ
  pub via_is : line.via ≡ Some distributor
  pub state : ClusterState
  pub holds : held distributor (history J) ≡ Some state.version
  pub published : state_in state.version J ≡ Some state
  pub refused : IsRefused lane line distributor state J (e ∷ J)

-- the line's operation wanted the event next, whose last call began with an earlier journal
pub record IsWantedBy (lane : Low) (rules : Rules) (line : FeedLine) (J : List LaneEvent) (e : LaneEvent) : Type 0 where
  pub from : List LaneEvent
  pub since : IsLater from J
  pub wants : WantsSince lane rules line.number line.operation (history from) J (Adds e)

-- it is closed with the outcome to which its course led
pub record IsClosed (lane : Low) (rules : Rules) (line : FeedLine) (J : List LaneEvent) (e : LaneEvent) : Type 0 where
  pub outcome : Outcome
  pub ended : HasEnded lane rules line J outcome
  pub event : e ≡ Closed line.number outcome

-- ---- all events

pub data IsStep (feeders : ℕ) (lines : Lines) (lane : Low) (rules : Rules) (J : List LaneEvent) (e : LaneEvent) : Type 0 where
  Hears : IsHeard lane J e → IsStep feeders lines lane rules J e
  Begins : (line : FeedLine) → IsNext feeders lines line J → IsBegun lane line J e → IsStep feeders lines lane rules J e
  Refuses : (line : FeedLine) → IsNext feeders lines line J → IsTurnedAway lane line J e → IsStep feeders lines lane rules J e
  Wants : (line : FeedLine) → IsAmong lines line → IsWantedBy lane rules line J e → IsStep feeders lines lane rules J e
  -- a round that was cut off for want of memory ends
  CutsOff : IsCutRound lane J (e ∷ J) → IsStep feeders lines lane rules J e
  Closes : (line : FeedLine) → IsAmong lines line → IsClosed lane rules line J e → IsStep feeders lines lane rules J e
  Carries : IsCarriage e → IsStep feeders lines lane rules J e

-- the journal grew from one to the other by such events
pub data Grows (feeders : ℕ) (lines : Lines) (lane : Low) (rules : Rules) (J : List LaneEvent) : List LaneEvent → Type 0 where
  Same : Grows feeders lines lane rules J J
  More : (e : LaneEvent) (K : List LaneEvent) → Grows feeders lines lane rules J K → IsStep feeders lines lane rules K e → Grows feeders lines lane rules J (e ∷ K)

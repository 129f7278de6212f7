-- What an upkeep makes of a lane and of its journal.
use Rattle.std.specs.Prelude.{◌≡◌, ◌⊎◌, ℕ, true, false, List, [], ◌++◌, length, Some, IfSome}
use Rattle.bucket_ids.specs.Buckets.{Low}
use Rattle.carriers.specs.declared.fate.Fate.{Fate}
use Rattle.cluster_states.specs.Publishing.{serves}
use Rattle.cluster_states.specs.declared.cluster_state.ClusterState.{ClusterState}
use Rattle.ideal_nodes.specs.Placement.{IsOwner}
use Rattle.lane_journals.specs.Readers.{opened, stopped}
use Rattle.lane_journals.specs.Meanings.{history}
use Rattle.lane_journals.specs.declared.event.LaneEvent.{LaneEvent}
use Rattle.lane_keeping.specs.LaneKeeping.{setting_of}
use Rattle.lane_rest.specs.Rest.{IsAtRest}
use Rattle.upkeep_spans.specs.Spans.{AreUpkeep}
use Rattle.upkeep_spans.specs.Causes.{IsCause}
use Rattle.upkeep_spans.specs.declared.answers.Upkeep.{Upkeep}
use Rattle.upkeep_spans.specs.declared.answers.Upkeep.TheVariants.{Rested, Held, NoMemory}
use Rattle.lane_keeping.specs.Tidings.{heard_next, last_state}
use Rattle.lane_calls.specs.LaneValues.{LaneValue, OfFirst, IsAny}

-- the lane's owner under the newest state hears that state, and makes a pass of upkeep
pub record IsMaintained (lane : Low) (J K : List LaneEvent) : Type 0 where
  pub state : ClusterState
  pub newest : last_state J ≡ Some state
  pub owner : ℕ
  pub owns : IsOwner lane state owner
  pub pass : AreUpkeep owner state.version (heard_next owner (Some state) J) K

-- the owner under the newest state hears it, and makes a pass
pub record Maintains (old new : LaneValue) : Type 0 where
  pub state : ClusterState
  pub newest : last_state old.journal ≡ Some state
  pub owner : ℕ
  pub owns : IsOwner old.lane state owner
  pub pass : AreUpkeep owner state.version (heard_next owner (Some state) old.journal) new.journal
  -- the fates that the carrier gave meanwhile
  pub fates : List Fate
  pub gives : new.given ≡ old.given ++ fates
  pub after : new ≡ record old { journal = new.journal; given = new.given }

-- the newest state is opened
abbrev pub HasOpened : List LaneEvent → Type 0
HasOpened J = IfSome (last_state J) (λ s. opened s.version (history J) ≡ true)

-- each node that serves under the newest state runs
abbrev pub HaveRun : List LaneEvent → Type 0
HaveRun J = IfSome (last_state J) (λ s. (n : ℕ) → serves s n ≡ true → stopped n (history J) ≡ false)

-- the lane is at rest, as its journal says
abbrev pub IsLaneAtRest : LaneValue → Type 0
IsLaneAtRest v = IsAtRest (setting_of v.lane v.rules) (v.rules).searchable (v.rules).split_at v.journal

-- nothing happens where an operation is under way, and the first says so; else there is a pass, whose answer has its cause,
-- or which want of memory cuts; where it rests it opened the state, if that wasn't opened, each node that serves ran, and it
-- left the lane at rest
abbrev pub IsUpkept : LaneValue → LaneValue → Upkeep → Type 0
IsUpkept old new (Held by) = OfFirst IsAny old.under_way by × (new ≡ old)
IsUpkept old new NoMemory = (old.under_way ≡ []) × ((new ≡ old) ⊎ Maintains old new)
IsUpkept old new Rested = (old.under_way ≡ []) × Maintains old new × IsCause new.given (length old.journal) new.journal Rested × HasOpened new.journal × HaveRun new.journal × IsLaneAtRest new
IsUpkept old new answer = (old.under_way ≡ []) × Maintains old new × IsCause new.given (length old.journal) new.journal answer

-- One distributor's part in one lane.
use Rattle.std.specs.Prelude.{◌≡◌, ◌<◌, ◌≤◌, ℕ, List, [], length, Option, Some, None, IsSome, IfSome}
use Rattle.std.specs.List.{AllByRecursion}
use Rattle.bucket_ids.specs.Buckets.{Low, IsIn}
use Rattle.cluster_states.specs.declared.cluster_state.ClusterState.{ClusterState}
use Rattle.ideal_nodes.specs.Placement.{IsOwner}
use Rattle.messages.specs.declared.message.Origin.{Origin}
use Rattle.messages.specs.declared.step.Job.{Job}
use Rattle.messages.specs.declared.step.Job.TheVariants.{Prepare, Upkeep}
use Rattle.bucket_db.specs.Rows.{Rows}
use Rattle.bucket_db.specs.declared.row.Row.{Row}
use Rattle.distributor_part.specs.declared.rules.Rules.{Rules}
use Rattle.distributor_part.specs.declared.stage.Stage.{Stage}
use Rattle.distributor_part.specs.declared.stage.Stage.TheVariants.{Before, Running, Over, Ended}

-- the distributor's number, its lane and the lane's rules; the state heard last; the nodes that answered an Ask
-- of its version, and the buckets that they showed; the nodes that were asked in this job, and the one whose
-- answer isn't told yet; the rows, once the state is opened; and how far the round of the job is
pub record Part : Type 0 where
  pub number : ℕ
  pub lane : Low
  pub rules : Rules
  pub state : Option ClusterState
  pub answered : ℕ
  pub shown : List Low
  pub asked : ℕ
  pub awaited : Option ℕ
  pub rows : Option Rows
  pub stage : Stage

-- a part that has a state and nothing else; none is heard at first
abbrev pub new_part : ℕ → Low → Rules → Option ClusterState → Part
new_part number lane rules state = record {
  number = number;
  lane = lane;
  rules = rules;
  state = state;
  answered = 0;
  shown = [];
  asked = 0;
  awaited = None;
  rows = None;
  stage = Before;
}

-- the version of the state that was heard, 0 before one is
abbrev pub version_of : Option ClusterState → ℕ
version_of None = 0
version_of (Some state) = state.version

-- what the part puts into its messages; the lane's number is its bucket's low bits
abbrev pub origin_of : Part → ℕ → Origin
origin_of p version = record { version = version; lane = (p.lane).low; sender = p.number }

-- the rows; none before the state is opened
abbrev pub rows_of : Option Rows → List Row
rows_of None = []
rows_of (Some d) = d.rows

-- the distributor owns the lane under the state that it heard last
pub record IsOwning (p : Part) : Type 0 where
  pub state : ClusterState
  pub heard : p.state ≡ Some state
  pub owner : IsOwner p.lane state p.number

-- the job is to prepare the row of a key of the lane
abbrev pub Prepares : Low → Job → Type 0
Prepares lane (Prepare key) = IsIn lane key
Prepares lane Upkeep = ⊥

-- that key
abbrev pub key_in : Job → ℕ
key_in (Prepare key) = key
key_in Upkeep = 0

-- ---- what holds of every part

-- the place of a round is one of the rows
abbrev pub StageFits : Option Rows → Stage → Type 0
StageFits rows Before = Unit {0}
StageFits rows (Running at receivers) = at < length (rows_of rows)
StageFits rows (Over at complete missing) = at < length (rows_of rows)
StageFits rows (Ended missing) = IsSome rows

-- rows are of the lane, and no active node has a number from 32 on
pub record AreOfLane (lane : Low) (d : Rows) : Type 0 where
  pub same_lane : d.lane ≡ lane
  pub small : AllByRecursion (λ r. IfSome r.active (λ n. n < 32)) d.rows

-- while an answer is awaited there is a place for it
pub record IsPart (place : Type 0) (lane : Low) (awaited : Option ℕ) (rows : Option Rows) (stage : Stage) : Type 0 where
  pub few : lane.bits ≤ 6
  pub node : IfSome awaited (λ n. n < 32)
  pub there : IfSome awaited (λ n. place)
  pub of_lane : IfSome rows (AreOfLane lane)
  pub fits : StageFits rows stage

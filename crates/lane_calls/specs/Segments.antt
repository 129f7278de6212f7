-- A segment of a lane: feeders run lines there, each of them its own lines one after the other. Every call is for one line,
-- and calls for lines of several feeders come in any order.
use Rattle.std.specs.Prelude.{◌≡◌, ◌<◌, ◌/◌, ◌%◌, ◌^◌, ℕ, List, [], ◌++◌, Option, None, Some, IsSome, slice_get}
use Rattle.bucket_ids.specs.Buckets.{Low}
use Rattle.carriers.specs.declared.fate.Fate.{Fate}
use Rattle.cluster_states.specs.declared.cluster_state.ClusterState.{ClusterState}
use Rattle.distributor_part.specs.declared.rules.Rules.{Rules}
use Rattle.ideal_nodes.specs.Placement.{IsOwner}
use Rattle.messages.specs.declared.operation.Operation.{Operation}
use Rattle.messages.specs.declared.outcome.Outcome.{Outcome}
use Rattle.lane_journals.specs.Buckets.{key_of}
use Rattle.lane_journals.specs.Readers.{prepared}
use Rattle.lane_journals.specs.Meanings.{history}
use Rattle.lane_journals.specs.declared.event.LaneEvent.{LaneEvent}
use Rattle.lane_keeping.specs.Lines.{IsFresh}
use Rattle.lane_keeping.specs.Tidings.{last_state}
use Rattle.operation_keeping.specs.Wants.{IsRunSince, IsCutRunSince, IsEndSince}
use Rattle.lane_calls.specs.declared.answers.Begin.{Begin}
use Rattle.lane_calls.specs.declared.answers.Hear.{Hear}
use Rattle.lane_calls.specs.declared.progress.UnderWay.{UnderWay}
use Rattle.lane_calls.specs.declared.progress.Progress.{Progress}
use Rattle.lane_calls.specs.declared.progress.Progress.TheVariants.{Begun, Runs, Over, Short}
use Rattle.lane_calls.specs.LaneValues.{LaneValue, IsLaneValue, IsHearing, IsBeginning, IsBeginningAtOwner, WantsMore, Closes, under_way_of, with_run}
use Rattle.lane_calls.specs.Lines.{FeedLine, Lines}
use Rattle.lane_calls.specs.Readings.{outcome_in}

-- ---- the lines of a segment

-- which of so many feeders runs the line: the key of its document says so
abbrev pub feeder_of : ℕ → FeedLine → ℕ
feeder_of feeders line = (key_of line.operation.id / 2 ^ 32) % feeders

abbrev pub IsAmong : Lines → FeedLine → Type 0
IsAmong lines line = (place : ℕ) × (slice_get lines place ≡ Some line)

-- no two of them have one number
abbrev pub AreApart : Lines → Type 0
AreApart lines = (a b : FeedLine) → IsAmong lines a → IsAmong lines b → a.number ≡ b.number → a ≡ b

-- each earlier one of its feeder has its outcome
abbrev pub HasTurn : ℕ → Lines → FeedLine → List LaneEvent → Type 0
HasTurn feeders lines line J = (other : FeedLine) → IsAmong lines other → feeder_of feeders other ≡ feeder_of feeders line → other.number < line.number → IsSome (outcome_in other.number J)

-- the line is one of these, has no event yet, and it is its turn
pub record IsNext (feeders : ℕ) (lines : Lines) (line : FeedLine) (J : List LaneEvent) : Type 0 where
  pub among : IsAmong lines line
  pub fresh : IsFresh (history J) line.number
  pub turn : HasTurn feeders lines line J

-- ---- what a call for a line does

-- it is to begin at the distributor that it names, or else at the owner
abbrev pub BeginsAs : FeedLine → Option ℕ → LaneValue → LaneValue → Begin → Type 0
BeginsAs line None v w answer = IsBeginningAtOwner line.number line.operation v w answer
BeginsAs line (Some d) v w answer = IsBeginning line.number line.operation d v w answer

-- its operation did what it wanted from one journal to the other: it is prepared, or over with an outcome that it wants, or
-- memory was wanted
abbrev pub WentTo : Low → Rules → ℕ → Operation → List LaneEvent → List LaneEvent → Progress → Type 0
WentTo lane rules n o J K Begun = ⊥
WentTo lane rules n o J K Runs = IsRunSince lane rules n o (history J) J K × IsSome (prepared n (history K))
WentTo lane rules n o J K (Over x) = IsRunSince lane rules n o (history J) J K × IsEndSince lane rules n o (history J) K x
WentTo lane rules n o J K Short = IsCutRunSince lane rules n o (history J) J K

-- the carrier gave these fates behind those
abbrev pub GaveOn : List Fate → List Fate → Type 0
GaveOn now given = (more : List Fate) × (now ≡ given ++ more)

-- the operation at the place, which wants to, goes on
pub record GoesOn (at : ℕ) (u : UnderWay) (v w : LaneValue) : Type 0 where
  pub found : slice_get v.under_way at ≡ Some u
  pub wants : WantsMore u.progress
  pub progress : Progress
  pub left : ℕ
  pub went : WentTo v.lane v.rules u.line u.operation v.journal w.journal progress
  pub after : w ≡ with_run v w.journal w.given at (under_way_of u.line u.operation u.distributor progress left)
  pub gives : GaveOn w.given v.given

-- the owner under the newest state is to hear it
pub record HearsAtOwner (v w : LaneValue) : Type 0 where
  pub owner : ℕ
  pub state : ClusterState
  pub newest : last_state v.journal ≡ Some state
  pub owns : IsOwner v.lane state owner
  pub answer : Hear
  pub hears : IsHearing owner v w answer

-- ---- the segment

-- one call, or nothing that a line could see
pub data IsCall (feeders : ℕ) (lines : Lines) (v w : LaneValue) : Type 0 where
  -- the owner hears the newest state, unless an operation stands against it
  Hears : HearsAtOwner v w → IsCall feeders lines v w
  -- a line is to begin, in its turn; another may stand against it
  Starts : (line : FeedLine) (answer : Begin) → IsNext feeders lines line v.journal → BeginsAs line line.via v w answer → IsCall feeders lines v w
  -- an operation under way goes on
  Continues : (at : ℕ) (u : UnderWay) → GoesOn at u v w → IsCall feeders lines v w
  -- one that is over is closed
  Ends : (line : ℕ) (outcome : Outcome) → Closes line outcome v w → IsCall feeders lines v w
  Stays : w ≡ v → IsCall feeders lines v w

-- the lane came from one value to the other by such calls, after each of which its journal is legal
pub data Calls (feeders : ℕ) (lines : Lines) (first : LaneValue) : LaneValue → Type 0 where
  Here : Calls feeders lines first first
  Then : (v w : LaneValue) → Calls feeders lines first v → IsCall feeders lines v w → IsLaneValue w → Calls feeders lines first w

-- the operation is that of one of these lines
pub record IsOfLines (lines : Lines) (u : UnderWay) : Type 0 where
  pub line : FeedLine
  pub among : IsAmong lines line
  pub number_is : u.line ≡ line.number
  pub operation_is : u.operation ≡ line.operation

-- no operation was under way as they began
pub record IsSegment (feeders : ℕ) (lines : Lines) (first last : LaneValue) : Type 0 where
  pub holds : IsLaneValue first
  pub idle : first.under_way ≡ []
  pub calls : Calls feeders lines first last

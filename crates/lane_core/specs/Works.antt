-- What a lane keeps behind its value: its fields, the stamps that were drawn, and the operations under way, of which
-- the journal says what was done.
use Rattle.std.specs.Prelude.{◌≡◌, ◌⊎◌, ◌==◌, ◌≤◌, ◌<◌, ◌+◌, ℕ, Bool, true, false, not, List, [], ◌∷◌, ◌++◌, map, length, Option, None, Some, is_some, slice_get, vec_len, if◌then◌else◌}
use Rattle.std.specs.Ordering.{nat_cmp}
use Rattle.std.specs.Map.{count_at}
use Rattle.std.specs.BTreeMap as tree
use Rattle.std.specs.BTreeMap.{BTreeMap}
use Rattle.bucket_ids.specs.Buckets as buckets
use Rattle.bucket_ids.specs.Buckets.{Low}
use Rattle.node_sets.specs.Members.{has_node}
use Rattle.stamps.specs.declared.stamp.Stamp.{Stamp}
use Rattle.cluster_states.specs.declared.cluster_state.ClusterState.{ClusterState}
use Rattle.carriers.specs.declared.fate.Fate.{Fate}
use Rattle.documents.specs.declared.entry.Entry.{Entry}
use Rattle.messages.specs.declared.operation.Operation.{Operation}
use Rattle.messages.specs.declared.outcome.Outcome.{Outcome}
use Rattle.messages.specs.declared.outcome.Outcome.TheVariants.{Acked, NoMemory}
use Rattle.distributor_part.specs.declared.rules.Rules.{Rules}
use Rattle.op_machine.specs.declared.machine.Standing.{Standing}
use Rattle.op_machine.specs.Plans.{IsOwn, is_get}
use Rattle.global_ids.specs.Keys as keys
use Rattle.lane_journals.specs.Buckets.{key_of}
use Rattle.lane_journals.specs.Readers.{Journal, Beginning, Preparing, began, prepared, wrote, closed, opened, stamps_of, running, complete, answered_store}
use Rattle.lane_journals.specs.Meanings.{history}
use Rattle.lane_journals.specs.KeptJournals.{IsLegalStep}
use Rattle.lane_journals.specs.declared.event.LaneEvent.{LaneEvent}
use Rattle.lane_journals.specs.declared.event.LaneEvent.TheVariants as event
use Rattle.lane_journals.specs.declared.event.LaneEvent.TheVariants.{Closed}
use Rattle.lane_keeping.specs.LaneKeeping.{setting_of}
use Rattle.lane_keeping.specs.Acting.{IsActing}
use Rattle.operation_keeping.specs.OperationKeeping.{IsUnderWay}
use Rattle.op_machine.specs.Plans.{IsPlainGet}
use Rattle.operation_keeping.specs.Left.{messages_left}
use Rattle.lane_core.specs.declared.work.Job.{Job}
use Rattle.lane_core.specs.declared.work.Phase.{Phase}
use Rattle.lane_core.specs.declared.work.Phase.TheVariants.{Begun, Prepared, Over, Short}
use Rattle.lane_calls.specs.declared.progress.Progress.{Progress}
use Rattle.lane_calls.specs.declared.progress.Progress.TheVariants as progress
use Rattle.lane_calls.specs.declared.progress.UnderWay.{UnderWay}
use Rattle.lane_core.specs.declared.work.Work.{Work}
use Rattle.lane_states.specs.LaneStates.{journal_of, handed_of, IsKept, HasRoom, AreResting, IsSetUp}
use Rattle.stamps.specs.Places.{place_of}
use Rattle.lane_states.specs.Written.{FindsEntries}
use Rattle.operation_keeping.specs.Wants.{IsAtStanding}
use Rattle.lane_calls.specs.LaneValues.{LaneValue, drawn, under_way_of}
use Rattle.lane_keeping.specs.Tidings.{last_state}

-- ---- the value

abbrev pub progress_of : Phase → Progress
progress_of Begun = progress.Begun
progress_of (Prepared machine row written) = progress.Runs
progress_of (Over outcome told answered) = progress.Over outcome
progress_of Short = progress.Short

abbrev pub under_way_at : Job → UnderWay
under_way_at j = under_way_of j.line j.operation j.distributor (progress_of j.phase) j.left

abbrev pub under_way_in : List Job → List UnderWay
under_way_in jobs = map under_way_at jobs

abbrev pub value_of : Work → List Fate → List Fate → Bool → LaneValue
value_of w given planned takes_plans = record {
  lane = w.state.lane;
  rules = w.state.rules;
  types = w.schema;
  journal = journal_of w.state;
  given = given;
  planned = planned;
  takes_plans = takes_plans;
  has_room = w.has_room;
  under_way = under_way_in w.jobs.items;
}

-- a relation of the lane's values, whatever its carrier
abbrev pub OfValues : (LaneValue → LaneValue → Type 0) → Work → Work → Type 0
OfValues R old new = (given planned : List Fate) (takes_plans : Bool) → R (value_of old given planned takes_plans) (value_of new given planned takes_plans)

abbrev pub SameValue : Work → Work → Type 0
SameValue old new = OfValues (λ a b. b ≡ a) old new

-- no change was handed over to a shelf
abbrev pub SameHanded : Work → Work → Type 0
SameHanded old new = handed_of new.state ≡ handed_of old.state

-- the operation of a line begins at a distributor under a version
abbrev pub begun_by : ℕ → Operation → ℕ → ℕ → LaneValue → LaneValue
begun_by line o d v old = record old { journal = event.Begun line d v o.id (drawn o.kind v old.journal) ∷ old.journal; under_way = old.under_way ++ under_way_of line o d progress.Begun 65 ∷ [] }

-- ---- an operation under way

-- the job of an operation that was begun and for which nothing was done
abbrev pub new_job : ℕ → Operation → ℕ → Option Stamp → Job
new_job line o d stamp = record { line = line; operation = o; key = keys.key_of o.id; distributor = d; stamp = stamp; row = None; left = 65; phase = Begun }

-- the row in which the journal says that it is prepared
abbrev pub IsItsRow : Option Low → Option Preparing → Type 0
IsItsRow None None = Unit {0}
IsItsRow (Some row) (Some p) = p.row ≡ row
IsItsRow _ _ = ⊥

-- it isn't prepared, and draws a stamp unless it is a get
pub record IsUnprepared (H : Journal) (j : Job) : Type 0 where
  pub unprepared : prepared j.line H ≡ None
  pub unwritten : wrote j.line H ≡ false
  pub stamped : is_some j.stamp ≡ not (is_get j.operation.kind)

-- where it is acknowledged, these members of its row are those that answered its Store
pub record IsAnswered (H : Journal) (j : Job) (s : ClusterState) (stamp : Stamp) (answered : ℕ) : Type 0 where
  pub stamped : j.stamp ≡ Some stamp
  pub opened_is : opened s.version H ≡ true
  pub answers : (n : ℕ) → complete s.version n (key_of j.operation.id) H ≡ true → has_node answered n ≡ answered_store s.version j.operation.id stamp n H

abbrev pub MayMark : Journal → Job → ClusterState → ℕ → Outcome → Type 0
MayMark H j s answered (Acked stamp) = IsAnswered H j s stamp answered
MayMark H j s answered _ = Unit {0}

pub record IsLineOver (lane : Low) (rules : Rules) (J : List LaneEvent) (j : Job) (s : ClusterState) (outcome told : Outcome) (answered : ℕ) : Type 0 where
  pub same : told ≡ outcome
  pub legal : IsLegalStep (setting_of lane rules) J (Closed j.line outcome)
  pub marks : MayMark (history J) j s answered outcome

-- the machine stands as the journal says, and has no more messages left than calls
pub record IsPrepared (lane : Low) (rules : Rules) (J : List LaneEvent) (j : Job) (s : ClusterState) (row : Low) (written : Bool) (t : Standing) : Type 0 where
  pub entry : Option Entry
  pub stands : IsAtStanding lane rules J j.line j.operation j.distributor s row entry t
  pub same_stamp : t.plan.stamp ≡ j.stamp
  pub written_is : written ≡ is_some entry

abbrev pub PhaseKeeps : Low → Rules → List LaneEvent → Job → ClusterState → Phase → Type 0
PhaseKeeps lane rules J j s Begun = IsUnprepared (history J) j
PhaseKeeps lane rules J j s (Prepared machine row written) = IsPrepared lane rules J j s row written machine
PhaseKeeps lane rules J j s (Over outcome told answered) = IsLineOver lane rules J j s outcome told answered
PhaseKeeps lane rules J j s Short = Unit {0}

pub record IsJob (lane : Low) (rules : Rules) (J : List LaneEvent) (j : Job) : Type 0 where
  pub state : ClusterState
  pub acting : IsActing lane J j.distributor state
  pub under_way : IsUnderWay lane (history J) j.distributor state j.line j.operation j.stamp
  pub key_is : j.key ≡ keys.key_of j.operation.id
  pub key_in : buckets.IsIn lane (key_of j.operation.id)
  pub own : IsOwn j.operation.id j.operation.kind
  pub plain : IsPlainGet j.operation
  pub row_is : IsItsRow j.row (prepared j.line (history J))
  pub phase_is : PhaseKeeps lane rules J j state j.phase

-- so many calls are left as the operation may need
abbrev pub PhaseLasts : ℕ → Phase → Type 0
PhaseLasts left Begun = left ≡ 65
PhaseLasts left (Prepared machine row written) = (1 ≤ left) × (messages_left machine ≤ left)
PhaseLasts left (Over outcome told answered) = Unit {0}
PhaseLasts left Short = Unit {0}

-- the operations under way, of different lines and documents: each line that was begun is closed, but for these
pub record AreJobs (lane : Low) (rules : Rules) (J : List LaneEvent) (jobs : List Job) : Type 0 where
  pub each : (at : ℕ) (j : Job) → slice_get jobs at ≡ Some j → IsJob lane rules J j
  pub lasts : (at : ℕ) (j : Job) → slice_get jobs at ≡ Some j → PhaseLasts j.left j.phase
  pub lines_apart : (a b : ℕ) (j k : Job) → slice_get jobs a ≡ Some j → slice_get jobs b ≡ Some k → j.line ≡ k.line → a ≡ b
  pub documents_apart : (a b : ℕ) (j k : Job) → slice_get jobs a ≡ Some j → slice_get jobs b ≡ Some k → j.operation.id ≡ k.operation.id → a ≡ b
  pub others : (line : ℕ) (begin : Beginning) → began line (history J) ≡ Some begin → (closed line (history J) ≡ true) ⊎ ((at : ℕ) × (j : Job) × (slice_get jobs at ≡ Some j) × (j.line ≡ line))

-- it is over, or memory was wanted
abbrev pub IsToClosePhase : Phase → Type 0
IsToClosePhase Begun = ⊥
IsToClosePhase (Prepared machine row written) = ⊥
IsToClosePhase (Over outcome told answered) = Unit {0}
IsToClosePhase Short = Unit {0}

-- the job of a place, of the line
pub record IsJobAt (line : ℕ) (jobs : List Job) (at : ℕ) (j : Job) : Type 0 where
  pub found : slice_get jobs at ≡ Some j
  pub line_is : j.line ≡ line

abbrev pub HasJob : ℕ → List Job → Type 0
HasJob line jobs = (at : ℕ) × (j : Job) × IsJobAt line jobs at j

abbrev pub HasJobToClose : ℕ → List Job → Type 0
HasJobToClose line jobs = (at : ℕ) × (j : Job) × IsJobAt line jobs at j × IsToClosePhase j.phase

-- what holds of the job at a place
abbrev pub OfJob : (Job → Type 0) → List Job → ℕ → Type 0
OfJob P jobs at = (j : Job) × (slice_get jobs at ≡ Some j) × P j

-- it holds of none; the line is that of the first of which it holds
abbrev pub OfNoJob : (Job → Type 0) → List Job → Type 0
OfNoJob P jobs = (at : ℕ) (j : Job) → slice_get jobs at ≡ Some j → P j → ⊥

pub record OfFirstJob (P : Job → Type 0) (jobs : List Job) (line : ℕ) : Type 0 where
  pub at : ℕ
  pub job : Job
  pub place : IsJobAt line jobs at job
  pub is : P job
  pub first : (k : ℕ) (j : Job) → k < at → slice_get jobs k ≡ Some j → P j → ⊥

abbrev pub IsOneOrNone : (Job → Type 0) → List Job → Option ℕ → Type 0
IsOneOrNone P jobs None = OfNoJob P jobs
IsOneOrNone P jobs (Some line) = OfFirstJob P jobs line

-- the distributor prepared it in the row
abbrev pub IsPreparedAt : ℕ → Low → Job → Type 0
IsPreparedAt d row j = (j.distributor ≡ d) × (j.row ≡ Some row)

-- the outcome of a phase that is to be closed, for the journal and for the caller, and who answered its Store
abbrev pub PhaseEnds : Phase → Outcome → Outcome → ℕ → Type 0
PhaseEnds Begun x y a = ⊥
PhaseEnds (Prepared machine row written) x y a = ⊥
PhaseEnds (Over outcome told answered) x y a = (x ≡ outcome) × ((y ≡ told) × (a ≡ answered))
PhaseEnds Short x y a = (x ≡ NoMemory) × (y ≡ NoMemory)

pub record IsEndedBy (j : Job) (line d key : ℕ) (outcome told : Outcome) (answered : ℕ) : Type 0 where
  pub line_is : line ≡ j.line
  pub distributor_is : d ≡ j.distributor
  pub key_is : key ≡ j.key
  pub ends : PhaseEnds j.phase outcome told answered

-- ---- the lane

abbrev pub count_of : BTreeMap ℕ ℕ → ℕ → ℕ
count_of counts v = count_at (tree.get nat_cmp counts) v

-- the counts once a stamp was drawn, which is its version's next, or none was
abbrev pub count_after : Option Stamp → (ℕ → ℕ) → ℕ → ℕ
count_after None counts v = counts v
count_after (Some s) counts v = if s.version == v then s.count else counts v

-- room for a publication with all that hear it
abbrev pub room_for : Bool → ℕ
room_for has_room = if has_room then 33 else 0

pub record IsWork (w : Work) : Type 0 where
  pub set_up : IsSetUp w.state.lane w.state.rules
  pub kept : IsKept w.state
  pub room : HasRoom 0 w.state
  -- there is room for a publication with all that hear it, and for the close of each operation
  pub spare_is : w.state.spare ≡ room_for w.has_room + length w.jobs.items
  -- and then each distributor has its part
  pub parted : w.has_room ≡ true → 32 ≤ vec_len w.state.parts
  -- and a place is kept free for the change that a stop or a start is
  pub placed : w.has_room ≡ true → w.state.turn_room ≡ true
  pub resting : AreResting w.state
  pub newest_is : w.state.newest ≡ last_state (journal_of w.state)
  pub counts_are : (v : ℕ) → count_of w.drawn v ≡ stamps_of v (history (journal_of w.state))
  pub no_round : (v : ℕ) (b : Low) → running v b (history (journal_of w.state)) ≡ false
  pub jobs_are : AreJobs w.state.lane w.state.rules (journal_of w.state) w.jobs.items
  pub finds : FindsEntries (place_of w.places) w.state.journal.events.items

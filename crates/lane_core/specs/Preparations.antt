-- What prepares an operation in the row of its key.
use Rattle.std.specs.Prelude.{◌≡◌, ◌≤◌, ℕ, true, false, not, List, ◌∷◌, None, Some, is_some, slice_get, IsSome}
use Rattle.node_sets.specs.Members.{size_of}
use Rattle.cluster_states.specs.declared.cluster_state.ClusterState.{ClusterState}
use Rattle.bucket_db.specs.declared.row.Row.{Row}
use Rattle.op_machine.specs.Plans.{is_get}
use Rattle.lane_journals.specs.Buckets.{contains, key_of}
use Rattle.lane_journals.specs.Readers.{Journal, prepared, wrote, opened}
use Rattle.lane_journals.specs.Meanings.{history, is_acked}
use Rattle.lane_journals.specs.KeptJournals.{IsLegalStep}
use Rattle.lane_keeping.specs.LaneKeeping.{setting_of}
use Rattle.messages.specs.declared.outcome.Outcome.{Outcome}
use Rattle.lane_journals.specs.declared.event.LaneEvent.TheVariants.{Prepared, Closed}
use Rattle.lane_keeping.specs.Acting.{IsActing, IsKnownRow}
use Rattle.operation_keeping.specs.Wants.{WantsSince, Adds}
use Rattle.lane_core.specs.declared.work.Job.{Job}
use Rattle.lane_core.specs.Works.{OfJob}
use Rattle.lane_calls.specs.declared.progress.Progress.TheVariants.{Runs, Over}
use Rattle.lane_calls.specs.declared.progress.UnderWay.{UnderWay}
use Rattle.lane_states.specs.declared.lane_state.LaneState.{LaneState}
use Rattle.lane_states.specs.LaneStates.{journal_of}
use Rattle.lane_calls.specs.LaneValues.{LaneValue, under_way_of, with_run}

-- the state is opened, and the row of the operation's key has enough complete members
pub record IsReadyFor (c : LaneState) (j : Job) : Type 0 where
  pub state : ClusterState
  pub acting : IsActing c.lane (journal_of c) j.distributor state
  pub unprepared : prepared j.line (history (journal_of c)) ≡ None
  pub unwritten : wrote j.line (history (journal_of c)) ≡ false
  pub opened_is : opened state.version (history (journal_of c)) ≡ true
  pub stamped : is_some j.stamp ≡ not (is_get j.operation.kind)
  pub lasts : 64 ≤ j.left
  pub enough : (row : Row) → IsKnownRow state.version (history (journal_of c)) row → contains row.bucket (key_of j.operation.id) ≡ true → c.rules.acks ≤ size_of row.complete

abbrev pub IsReady : LaneState → List Job → ℕ → Type 0
IsReady c jobs at = OfJob (IsReadyFor c) jobs at

-- the operation at the place was prepared in that row, which the line wanted, wherever the search began
pub record PreparesOf (at : ℕ) (u : UnderWay) (old new : LaneValue) : Type 0 where
  pub row : Row
  pub wanted : (from : Journal) → WantsSince old.lane old.rules u.line u.operation from old.journal (Adds (Prepared u.line row.bucket row.complete))
  pub there : IsSome (prepared u.line (history new.journal))
  pub after : new ≡ with_run old (Prepared u.line row.bucket row.complete ∷ old.journal) old.given at (under_way_of u.line u.operation u.distributor Runs u.left)

abbrev pub PreparesAt : ℕ → LaneValue → LaneValue → Type 0
PreparesAt at old new = (u : UnderWay) × (slice_get old.under_way at ≡ Some u) × PreparesOf at u old new

-- ---- an operation that can't be prepared

-- it may end with the outcome, and isn't acknowledged
pub record FallsShort (c : LaneState) (j : Job) (outcome told : Outcome) : Type 0 where
  pub same : told ≡ outcome
  pub legal : IsLegalStep (setting_of c.lane c.rules) (journal_of c) (Closed j.line outcome)
  pub unacked : is_acked outcome ≡ false

abbrev pub MayFallShort : LaneState → List Job → ℕ → Outcome → Outcome → Type 0
MayFallShort c jobs at outcome told = OfJob (λ j. FallsShort c j outcome told) jobs at

-- the operation at the place is over with the outcome
abbrev pub OverAt : ℕ → Outcome → LaneValue → LaneValue → Type 0
OverAt at outcome old new = (u : UnderWay) × (slice_get old.under_way at ≡ Some u) × (new ≡ with_run old old.journal old.given at (under_way_of u.line u.operation u.distributor (Over outcome) u.left))

-- What a call that lets an operation go on comes to, by what its line wants.
use Rattle.std.specs.Prelude.{◌≡◌, ◌≢◌, ◌<◌, ℕ, List, ◌∷◌, true, Some, slice_get, IsSome}
use Rattle.bucket_ids.specs.Buckets.{Low}
use Rattle.node_sets.specs.Members.{size_of}
use Rattle.cluster_states.specs.declared.cluster_state.ClusterState.{ClusterState}
use Rattle.bucket_db.specs.declared.row.Row.{Row}
use Rattle.lane_journals.specs.Buckets.{contains, key_of}
use Rattle.lane_journals.specs.Readers.{prepared, opened}
use Rattle.lane_journals.specs.Meanings.{history}
use Rattle.lane_journals.specs.declared.event.LaneEvent.{LaneEvent}
use Rattle.lane_journals.specs.declared.event.LaneEvent.TheVariants.{Prepared}
use Rattle.lane_keeping.specs.Acting.{IsActing, IsKnownRow}
use Rattle.lane_calls.specs.LaneValues.{LaneValue, IsPlace, OfFirst, IsPreparedIn, WantsMore, under_way_of, with_run}
use Rattle.lane_calls.specs.declared.progress.UnderWay.{UnderWay}
use Rattle.lane_calls.specs.declared.progress.Progress.{Progress}
use Rattle.lane_calls.specs.declared.progress.Progress.TheVariants.{Begun, Runs, Over, Short}
use Rattle.lane_calls.specs.declared.answers.Advance.{Advance}
use Rattle.lane_calls.specs.declared.answers.Advance.TheVariants as advance
use Rattle.messages.specs.declared.outcome.Outcome.{Outcome}
use Rattle.lane_states.specs.LaneStates.{GivesOn}
use Rattle.lane_lines.specs.Steps.{GivesOne, GivesFew}
use Rattle.operation_keeping.specs.Wants.{Adds, WantsSince, IsRunSince, IsCutRunSince, IsEndSince}

-- the operation wants a round, and the first of its distributor that is prepared in that row is of the line `by`, another
pub record IsHindered (u : UnderWay) (v : LaneValue) (by : ℕ) : Type 0 where
  pub begun : u.progress ≡ Begun
  pub other : by ≢ u.line
  pub state : ClusterState
  pub acting : IsActing v.lane v.journal u.distributor state
  pub opened_is : opened state.version (history v.journal) ≡ true
  pub row : Row
  pub known : IsKnownRow state.version (history v.journal) row
  pub inside : contains row.bucket (key_of u.operation.id) ≡ true
  pub few : size_of row.complete < v.rules.acks
  pub first : OfFirst (IsPreparedIn v.journal u.distributor row.bucket) v.under_way by

abbrev pub IsFree : UnderWay → LaneValue → Type 0
IsFree u v = (by : ℕ) → IsHindered u v by → ⊥

-- the operation at the place went on by what it wanted since the call began; nothing stood against it
pub record WentOn (at : ℕ) (u : UnderWay) (progress : Progress) (old new : LaneValue) : Type 0 where
  pub free : IsFree u old
  pub left : ℕ
  pub fewer : left < u.left
  pub after : new ≡ with_run old new.journal new.given at (under_way_of u.line u.operation u.distributor progress left)
  pub gives : GivesOn old.given new.given
  -- one message at most is sent for what is prepared
  pub few : u.progress ≡ Runs → GivesFew old.given new.given
  pub run : IsRunSince old.lane old.rules u.line u.operation (history old.journal) old.journal new.journal

-- or was cut off for want of memory
pub record WasCut (at : ℕ) (u : UnderWay) (old new : LaneValue) : Type 0 where
  pub left : ℕ
  pub after : new ≡ with_run old new.journal new.given at (under_way_of u.line u.operation u.distributor Short left)
  pub gives : GivesOn old.given new.given
  pub few : u.progress ≡ Runs → GivesFew old.given new.given
  pub run : IsCutRunSince old.lane old.rules u.line u.operation (history old.journal) old.journal new.journal

-- the journal's newest event prepares the line
pub record IsJustPrepared (line : ℕ) (J : List LaneEvent) : Type 0 where
  pub row : Low
  pub recipients : ℕ
  pub before : List LaneEvent
  pub now : J ≡ Prepared line row recipients ∷ before

-- the operation wants an event next, and not its end
abbrev pub WantsEvent : UnderWay → LaneValue → LaneValue → Type 0
WantsEvent u old new = (e : LaneEvent) × WantsSince old.lane old.rules u.line u.operation (history old.journal) new.journal (Adds e)

-- it goes on, prepared in its row: the call that found the row did no more, and each later one sent one message and left it
-- with an event that it wants
abbrev pub GoesOn : ℕ → UnderWay → LaneValue → LaneValue → Type 0
GoesOn at u old new = WentOn at u Runs old new × IsSome (prepared u.line (history new.journal))
    × (u.progress ≡ Begun → IsJustPrepared u.line new.journal)
    × (u.progress ≡ Runs → GivesOne old.given new.given × WantsEvent u old new)

-- it is over, with an outcome that it wants
abbrev pub IsDone : ℕ → UnderWay → LaneValue → LaneValue → Type 0
IsDone at u old new = (outcome : Outcome) × WentOn at u (Over outcome) old new × IsEndSince old.lane old.rules u.line u.operation (history old.journal) new.journal outcome

abbrev pub Advances : ℕ → UnderWay → LaneValue → LaneValue → Advance → Type 0
Advances at u old new advance.More = GoesOn at u old new
Advances at u old new (advance.Waits by) = IsHindered u old by × (new ≡ old)
Advances at u old new advance.Done = IsDone at u old new
Advances at u old new advance.NoMemory = WasCut at u old new

abbrev pub AdvancesAt : ℕ → LaneValue → LaneValue → Advance → Type 0
AdvancesAt at old new answer = (u : UnderWay) × (slice_get old.under_way at ≡ Some u) × Advances at u old new answer

-- the line's operation, which wanted to go on, advances
pub record IsAdvance (line : ℕ) (old new : LaneValue) (answer : Advance) : Type 0 where
  pub at : ℕ
  pub operation : UnderWay
  pub place : IsPlace line old.under_way at operation
  pub wants : WantsMore operation.progress
  pub advances : Advances at operation old new answer

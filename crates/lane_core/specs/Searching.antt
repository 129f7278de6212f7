-- The search for the row of an operation that was begun, and what it comes to.
use Rattle.std.specs.Prelude.{◌≡◌, ◌-◌, ℕ, Bool, true, false, List, Option, None, Some, slice_get, IsSome}
use Rattle.cluster_states.specs.declared.cluster_state.ClusterState.{ClusterState}
use Rattle.carriers.specs.declared.fate.Fate.{Fate}
use Rattle.lane_journals.specs.Readers.{Journal}
use Rattle.lane_journals.specs.Meanings.{history}
use Rattle.operation_keeping.specs.Wants.{IsEndSince}
use Rattle.lane_calls.specs.declared.answers.Advance.{Advance}
use Rattle.lane_core.specs.declared.work.Job.{Job}
use Rattle.lane_core.specs.declared.work.Phase.{Phase}
use Rattle.lane_core.specs.declared.work.Phase.TheVariants as phase
use Rattle.lane_calls.specs.declared.progress.Progress.TheVariants as progress
use Rattle.lane_calls.specs.declared.progress.UnderWay.{UnderWay}
use Rattle.lane_lines.specs.declared.readying.Shortage.{Shortage}
use Rattle.lane_core.specs.declared.work.Work.{Work}
use Rattle.lane_states.specs.LaneStates.{journal_of, part_of}
use Rattle.lane_states.specs.FreeRows.{IsRowFree}
use Rattle.lane_calls.specs.LaneValues.{LaneValue}
use Rattle.lane_core.specs.Advancing.{IsHindered, IsFree, WentOn, AdvancesAt}
use Rattle.lane_core.specs.Works.{value_of, under_way_at, OfValues, OfJob}
use Rattle.lane_core.specs.Preparations.{IsReady, MayFallShort}
use Rattle.lane_lines.specs.Readying.{outcome_of}

-- nothing was done for it since it was begun
abbrev pub is_begun : Phase → Bool
is_begun phase.Begun = true
is_begun (phase.Prepared machine row written) = false
is_begun (phase.Over outcome told answered) = false
is_begun phase.Short = false

abbrev pub JustBegun : List Job → ℕ → Type 0
JustBegun jobs at = OfJob (λ j. is_begun j.phase ≡ true) jobs at

-- it has one call less, and wants memory until more is known of it
abbrev pub spent : Job → Job
spent j = record j { left = j.left - 1; phase = phase.Short }

-- ---- what stands against it

-- a round of its row would be run, and that is free
pub record IsFreeFor (w : Work) (j : Job) : Type 0 where
  pub free : (given planned : List Fate) (takes_plans : Bool) → IsFree (under_way_at j) (value_of w given planned takes_plans)
  pub row : IsSome (part_of w.state j.distributor).rows → (s : ClusterState) → (part_of w.state j.distributor).state ≡ Some s → IsRowFree (journal_of w.state) s w.state.rules.acks j.key

abbrev pub IsBlocked : Work → Job → Option ℕ → Type 0
IsBlocked w j None = IsFreeFor w j
IsBlocked w j (Some by) = (given planned : List Fate) (takes_plans : Bool) → IsHindered (under_way_at j) (value_of w given planned takes_plans) by

-- ---- the search

-- the operation at the place, which was only begun, went on by what it wanted
abbrev pub WentAt : ℕ → LaneValue → LaneValue → Type 0
WentAt at old new = (u : UnderWay) × (slice_get old.under_way at ≡ Some u) × WentOn at u progress.Short old new × (u.progress ≡ progress.Begun)

abbrev pub SearchesBy : ℕ → Work → Work → List Fate → List Fate → Type 0
SearchesBy at old new given now = (planned : List Fate) (takes_plans : Bool) → WentAt at (value_of old given planned takes_plans) (value_of new now planned takes_plans)

-- it may be prepared in its row, or is over with an outcome that it wants
pub record ComesShort (from : Journal) (w : Work) (at : ℕ) (x : Shortage) : Type 0 where
  pub may : MayFallShort w.state w.jobs.items at (outcome_of x) (outcome_of x)
  pub wanted : OfJob (λ j. IsEndSince w.state.lane w.state.rules j.line j.operation from (journal_of w.state) (outcome_of x)) w.jobs.items at

abbrev pub ComesToRow : Journal → Work → ℕ → Option Shortage → Type 0
ComesToRow from w at None = IsReady w.state w.jobs.items at
ComesToRow from w at (Some x) = ComesShort from w at x

-- it may be prepared, or be over
abbrev pub MayCome : Work → ℕ → Option Shortage → Type 0
MayCome w at None = IsReady w.state w.jobs.items at
MayCome w at (Some x) = MayFallShort w.state w.jobs.items at (outcome_of x) (outcome_of x)

-- of what was found it wants the end
abbrev pub WantsShort : LaneValue → ℕ → LaneValue → Option Shortage → Type 0
WantsShort v at now None = Unit {0}
WantsShort v at now (Some x) = (u : UnderWay) → slice_get v.under_way at ≡ Some u → IsEndSince v.lane v.rules u.line u.operation (history v.journal) now.journal (outcome_of x)

-- whatever call got so far by what the operation wanted, it goes on so
abbrev pub ComesFrom : ℕ → Work → Option Shortage → Work → Advance → Type 0
ComesFrom at old found new answer = (v : LaneValue) → OfValues (λ a b. WentAt at v a → WantsShort v at a found → AdvancesAt at v b answer) old new

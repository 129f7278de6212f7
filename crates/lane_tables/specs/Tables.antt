-- Three operations under way in one lane, of the lines 1, 2 and 3, and what a call is answered then. Each row says what stands
-- against the call; the answer is decided by it, but that a call may want memory.
use Rattle.std.specs.Prelude.{◌≡◌, ◌≢◌, ◌⊎◌, ℕ, true, false, List, [], ◌∷◌, Some}
use Rattle.cluster_states.specs.declared.cluster_state.ClusterState.{ClusterState}
use Rattle.ideal_nodes.specs.Placement.{IsOwner}
use Rattle.messages.specs.declared.operation.Operation.{Operation}
use Rattle.lane_journals.specs.Readers.{held}
use Rattle.lane_journals.specs.Meanings.{history}
use Rattle.lane_keeping.specs.Acting.{IsActing}
use Rattle.lane_keeping.specs.Tidings.{is_older, last_state}
use Rattle.upkeep_spans.specs.declared.answers.Upkeep.{Upkeep}
use Rattle.upkeep_spans.specs.declared.answers.Upkeep.TheVariants as upkeep
use Rattle.lane_calls.specs.declared.progress.UnderWay.{UnderWay}
use Rattle.lane_calls.specs.declared.answers.Advance.{Advance}
use Rattle.lane_calls.specs.declared.answers.Advance.TheVariants as advance
use Rattle.lane_calls.specs.declared.answers.Begin.{Begin}
use Rattle.lane_calls.specs.declared.answers.Begin.TheVariants as begin
use Rattle.lane_calls.specs.declared.answers.Hear.{Hear}
use Rattle.lane_calls.specs.declared.answers.Hear.TheVariants as hear
use Rattle.lane_calls.specs.LaneValues.{LaneValue, IsHearing, IsBeginning, IsBeginningAtOwner}
use Rattle.lane_calls.specs.Upkept.{IsUpkept}
use Rattle.lane_core.specs.Advancing.{IsHindered, IsFree, IsAdvance}

pub record AreThree (us : List UnderWay) (a b c : UnderWay) : Type 0 where
  pub are : us ≡ a ∷ b ∷ c ∷ []
  pub first_line : a.line ≡ 1
  pub second_line : b.line ≡ 2
  pub third_line : c.line ≡ 3

-- ---- begin

-- the second one is of the document
pub record SameDocument (old : LaneValue) (o : Operation) (via : ℕ) : Type 0 where
  pub a : UnderWay
  pub b : UnderWay
  pub c : UnderWay
  pub three : AreThree old.under_way a b c
  pub other : a.operation.id ≢ o.id
  pub same : b.operation.id ≡ o.id
  pub state : ClusterState
  pub acting : IsActing old.lane old.journal via state

-- none of them is
pub record OtherDocuments (old : LaneValue) (o : Operation) (via : ℕ) : Type 0 where
  pub a : UnderWay
  pub b : UnderWay
  pub c : UnderWay
  pub three : AreThree old.under_way a b c
  pub first : a.operation.id ≢ o.id
  pub second : b.operation.id ≢ o.id
  pub third : c.operation.id ≢ o.id
  pub state : ClusterState
  pub acting : IsActing old.lane old.journal via state

-- ---- hear

-- the distributor began the second and would hear a newer state; the first was begun by another
pub record HeardBetween (old : LaneValue) (d : ℕ) : Type 0 where
  pub a : UnderWay
  pub b : UnderWay
  pub c : UnderWay
  pub three : AreThree old.under_way a b c
  pub other : a.distributor ≢ d
  pub same : b.distributor ≡ d
  pub state : ClusterState
  pub newest : last_state old.journal ≡ Some state
  pub behind : is_older (held d (history old.journal)) state.version ≡ true

-- others began them all
pub record HeardByAnother (old : LaneValue) (d : ℕ) (s : ClusterState) : Type 0 where
  pub a : UnderWay
  pub b : UnderWay
  pub c : UnderWay
  pub three : AreThree old.under_way a b c
  pub first : a.distributor ≢ d
  pub second : b.distributor ≢ d
  pub third : c.distributor ≢ d
  pub newest : last_state old.journal ≡ Some s

-- it holds the newest, whoever began them
pub record HeardAlready (old : LaneValue) (d : ℕ) (s : ClusterState) : Type 0 where
  pub newest : last_state old.journal ≡ Some s
  pub holds : is_older (held d (history old.journal)) s.version ≡ false

-- ---- begin at the owner

-- the owner under the newest state would hear it, and began the second
pub record OwnerBehind (old : LaneValue) : Type 0 where
  pub owner : ℕ
  pub between : HeardBetween old owner
  pub owns : IsOwner old.lane between.state owner

-- ---- advance

-- the third wants a round of a row in which the first is prepared
pub record SameRow (old : LaneValue) : Type 0 where
  pub a : UnderWay
  pub b : UnderWay
  pub c : UnderWay
  pub three : AreThree old.under_way a b c
  pub hindered : IsHindered c old 1

-- it wants none, or none is prepared there
pub record OtherRows (old : LaneValue) : Type 0 where
  pub a : UnderWay
  pub b : UnderWay
  pub c : UnderWay
  pub three : AreThree old.under_way a b c
  pub free : IsFree c old

-- ---- the tables

pub record AreAnswers : Type 0 where
  pub same_document : (old new : LaneValue) (line : ℕ) (o : Operation) (via : ℕ) (answer : Begin) → SameDocument old o via → IsBeginning line o via old new answer → ((answer ≡ begin.Held 2) ⊎ (answer ≡ begin.NoMemory)) × (new ≡ old)
  pub other_documents : (old new : LaneValue) (line : ℕ) (o : Operation) (via : ℕ) (answer : Begin) → OtherDocuments old o via → IsBeginning line o via old new answer → (answer ≡ begin.Begun) ⊎ (answer ≡ begin.NoMemory)
  pub heard_between : (old new : LaneValue) (d : ℕ) (answer : Hear) → HeardBetween old d → IsHearing d old new answer → ((answer ≡ hear.Held 2) ⊎ (answer ≡ hear.NoMemory)) × (new ≡ old)
  pub heard_by_another : (old new : LaneValue) (d : ℕ) (s : ClusterState) (answer : Hear) → HeardByAnother old d s → IsHearing d old new answer → (answer ≡ hear.Heard s.version) ⊎ (answer ≡ hear.NoMemory)
  pub heard_already : (old new : LaneValue) (d : ℕ) (s : ClusterState) (answer : Hear) → HeardAlready old d s → IsHearing d old new answer → ((answer ≡ hear.Heard s.version) ⊎ (answer ≡ hear.NoMemory)) × (new ≡ old)
  pub owner_behind : (old new : LaneValue) (line : ℕ) (o : Operation) (answer : Begin) → OwnerBehind old → IsBeginningAtOwner line o old new answer → ((answer ≡ begin.Held 2) ⊎ (answer ≡ begin.NoMemory)) × (new ≡ old)
  pub same_row : (old new : LaneValue) (answer : Advance) → SameRow old → IsAdvance 3 old new answer → ((answer ≡ advance.Waits 1) × (new ≡ old)) ⊎ (answer ≡ advance.NoMemory)
  pub other_rows : (old new : LaneValue) (by : ℕ) → OtherRows old → IsAdvance 3 old new (advance.Waits by) → ⊥
  pub upkeep_held : (old new : LaneValue) (a b c : UnderWay) (answer : Upkeep) → AreThree old.under_way a b c → IsUpkept old new answer → (answer ≡ upkeep.Held 1) × (new ≡ old)

-- What a lane is to its callers: its bucket and its rules, the types of its documents, its journal, the fates that its
-- carrier gave and planned, and the operations under way; and what its calls make of that.
use Rattle.std.specs.Prelude.{◌≡◌, ◌⊎◌, ℕ, ◌+◌, ◌<◌, Bool, true, false, IsSome, IfSome, List, [], ◌∷◌, ◌++◌, Option, None, Some, refl, slice_get, slice_set, if◌then◌else◌}
use Rattle.std.specs.List.{remove}
use Rattle.std.specs.Coded.{Coded, code_by, coded×, coded_ℕ, coded_bool, coded_list}
use Rattle.bucket_ids.specs.Buckets.{Low}
use Rattle.stamps.specs.declared.stamp.Stamp.{Stamp}
use Rattle.cluster_states.specs.declared.cluster_state.ClusterState.{ClusterState}
use Rattle.doc_types.specs.SchemaCodes.{Types, types_code}
use Rattle.ideal_nodes.specs.Placement.{IsOwner}
use Rattle.carriers.specs.declared.fate.Fate.{Fate}
use Rattle.carriers.specs.contracts.fate.Fate as fates
use Rattle.messages.specs.declared.operation.OpKind.{OpKind}
use Rattle.messages.specs.declared.operation.Operation.{Operation}
use Rattle.messages.specs.declared.outcome.Outcome.{Outcome}
use Rattle.messages.specs.declared.outcome.Outcome.TheVariants.{OwnedElsewhere, NoMemory}
use Rattle.distributor_part.specs.declared.rules.Rules.{Rules}
use Rattle.distributor_part.specs.contracts.rules.Rules as rules
use Rattle.op_machine.specs.Plans.{is_get}
use Rattle.lane_journals.specs.Buckets.{Id}
use Rattle.lane_journals.specs.Readers.{Journal, Beginning, Preparing, held, began, prepared, closed, stamps_of}
use Rattle.lane_journals.specs.Meanings.{history}
use Rattle.lane_journals.specs.Places.{state_in}
use Rattle.lane_journals.specs.KeptJournals.{IsLegal}
use Rattle.lane_journals.specs.declared.event.LaneEvent.{LaneEvent}
use Rattle.lane_journals.specs.contracts.event.LaneEvent as events
use Rattle.lane_journals.specs.declared.event.LaneEvent.TheVariants.{Begun, Refused, Closed}
use Rattle.lane_keeping.specs.LaneKeeping.{setting_of}
use Rattle.lane_keeping.specs.Acting.{IsActing}
use Rattle.lane_carriage.specs.Carriage.{IsCarried}
use Rattle.lane_keeping.specs.Tidings.{heard_next, is_older, last_state}
use Rattle.lane_calls.specs.declared.progress.UnderWay.{UnderWay}
use Rattle.lane_calls.specs.contracts.progress.UnderWay as under
use Rattle.lane_calls.specs.declared.progress.Progress.{Progress}
use Rattle.lane_calls.specs.declared.progress.Progress.TheVariants as progress
use Rattle.lane_calls.specs.declared.answers.Hear.{Hear}
use Rattle.lane_calls.specs.declared.answers.Hear.TheVariants as hear
use Rattle.lane_calls.specs.declared.answers.Begin.{Begin}
use Rattle.lane_calls.specs.declared.answers.Begin.TheVariants as begin

pub record LaneValue : Type 0 where
  pub lane : Low
  pub rules : Rules
  pub types : Types
  -- the newest event at its head
  pub journal : List LaneEvent
  -- the fates that the carrier gave, in order, and those that were planned
  pub given : List Fate
  pub planned : List Fate
  pub takes_plans : Bool
  -- whether room was made for the next publication, stop or start
  pub has_room : Bool
  -- in the order in which they began
  pub under_way : List UnderWay

abbrev pub Parts : Type 0
Parts = (Low × (Rules × Types)) × ((List LaneEvent × (List Fate × List Fate)) × ((Bool × Bool) × List UnderWay))

abbrev pub low_code : Coded Low
low_code = code_by (ℕ × ℕ) (coded× coded_ℕ coded_ℕ) (λ b. (b.bits, b.low)) (λ p. record { bits = p.0; low = p.1 }) (λ _. refl)

abbrev pub parts_code : Coded Parts
parts_code = coded× (coded× low_code (coded× rules.the_row.coded types_code))
    (coded× (coded× (coded_list events.the_row.coded) (coded× (coded_list fates.the_row.coded) (coded_list fates.the_row.coded)))
    (coded× (coded× coded_bool coded_bool) (coded_list under.the_row.coded)))

abbrev pub lane_code : Coded LaneValue
lane_code = code_by Parts parts_code
    (λ v. ((v.lane, (v.rules, v.types)), ((v.journal, (v.given, v.planned)), ((v.takes_plans, v.has_room), v.under_way))))
    (λ p. record { lane = p.0.0; rules = p.0.1.0; types = p.0.1.1; journal = p.1.0.0; given = p.1.0.1.0; planned = p.1.0.1.1; takes_plans = p.1.1.0.0; has_room = p.1.1.0.1; under_way = p.1.1.1 })
    (λ _. refl)

-- nothing happened in the lane
abbrev pub new_value : Low → Rules → Types → List Fate → List Fate → Bool → LaneValue
new_value lane rules types given planned takes_plans = record {
  lane = lane;
  rules = rules;
  types = types;
  journal = [];
  given = given;
  planned = planned;
  takes_plans = takes_plans;
  has_room = false;
  under_way = [];
}

-- ---- which operation stands against a call

-- the operation of the line is at the place
pub record IsPlace (line : ℕ) (us : List UnderWay) (at : ℕ) (u : UnderWay) : Type 0 where
  pub found : slice_get us at ≡ Some u
  pub line_is : u.line ≡ line

-- it is of none of them
abbrev pub OfNone : (UnderWay → Type 0) → List UnderWay → Type 0
OfNone P us = (at : ℕ) (u : UnderWay) → slice_get us at ≡ Some u → P u → ⊥

-- the line is that of the first of which it is
pub record OfFirst (P : UnderWay → Type 0) (us : List UnderWay) (line : ℕ) : Type 0 where
  pub at : ℕ
  pub operation : UnderWay
  pub place : IsPlace line us at operation
  pub is : P operation
  pub first : (k : ℕ) (u : UnderWay) → k < at → slice_get us k ≡ Some u → P u → ⊥

-- the distributor began it
abbrev pub IsBegunAt : ℕ → UnderWay → Type 0
IsBegunAt d u = u.distributor ≡ d

-- it is of the document
abbrev pub IsOfDocument : Id → UnderWay → Type 0
IsOfDocument id u = u.operation.id ≡ id

-- the distributor prepared it in the row
pub record IsPreparedIn (J : List LaneEvent) (d : ℕ) (row : Low) (u : UnderWay) : Type 0 where
  pub begun_at : u.distributor ≡ d
  pub preparing : Preparing
  pub prepared_as : prepared u.line (history J) ≡ Some preparing
  pub row_is : preparing.row ≡ row

abbrev pub IsAny : UnderWay → Type 0
IsAny u = Unit {0}

-- ---- hear

-- the distributor holds no state, or an older one than the newest
abbrev pub IsBehind : ℕ → List LaneEvent → Type 0
IsBehind d J = IfSome (last_state J) (λ s. is_older (held d (history J)) s.version ≡ true)

-- the distributor hears the newest state, if it doesn't hold it; no operation of it is under way then
pub record HearsNewest (d version : ℕ) (old new : LaneValue) : Type 0 where
  pub version_is : IfSome (last_state old.journal) (λ s. version ≡ s.version)
  pub free : IsBehind d old.journal → OfNone (IsBegunAt d) old.under_way
  pub after : new ≡ record old { journal = heard_next d (last_state old.journal) old.journal }

-- one is, and it would hear a newer state
pub record IsHeldBack (d by : ℕ) (old new : LaneValue) : Type 0 where
  pub behind : IsBehind d old.journal
  pub first : OfFirst (IsBegunAt d) old.under_way by
  pub same : new ≡ old

abbrev pub IsHearing : ℕ → LaneValue → LaneValue → Hear → Type 0
IsHearing d old new (hear.Heard version) = HearsNewest d version old new
IsHearing d old new (hear.Held by) = IsHeldBack d by old new
IsHearing d old new hear.NoMemory = new ≡ old

-- ---- begin

-- the stamp that an operation draws under a version; a get draws none
abbrev pub drawn : OpKind → ℕ → List LaneEvent → Option Stamp
drawn kind v J = if is_get kind then None else Some (record { version = v; count = stamps_of v (history J) + 1 })

abbrev pub under_way_of : ℕ → Operation → ℕ → Progress → ℕ → UnderWay
under_way_of line o d progress left = record { line = line; operation = o; distributor = d; progress = progress; left = left }

-- the distributor owns the lane under the state that it holds, and begins the operation; none of the document is under way
pub record Begins (line : ℕ) (o : Operation) (via : ℕ) (old new : LaneValue) : Type 0 where
  pub state : ClusterState
  pub acting : IsActing old.lane old.journal via state
  pub free : OfNone (IsOfDocument o.id) old.under_way
  pub after : new ≡ record old {
    journal = Begun line via state.version o.id (drawn o.kind state.version old.journal) ∷ old.journal;
    under_way = old.under_way ++ under_way_of line o via progress.Begun 65 ∷ [];
  }

-- it owns the lane, and an operation of the document is under way
pub record IsDocumentHeld (o : Operation) (via by : ℕ) (old new : LaneValue) : Type 0 where
  pub state : ClusterState
  pub acting : IsActing old.lane old.journal via state
  pub first : OfFirst (IsOfDocument o.id) old.under_way by
  pub same : new ≡ old

-- it holds a state under which another one owns the lane
pub record Refuses (line via : ℕ) (outcome : Outcome) (old new : LaneValue) : Type 0 where
  pub state : ClusterState
  pub holds : held via (history old.journal) ≡ Some state.version
  pub published : state_in state.version old.journal ≡ Some state
  pub not_owner : IsOwner old.lane state via → ⊥
  pub owner : ℕ
  pub owns : IsOwner old.lane state owner
  pub outcome_is : outcome ≡ OwnedElsewhere owner state.version
  pub after : new ≡ record old { journal = Refused line via outcome ∷ old.journal }

abbrev pub IsBeginning : ℕ → Operation → ℕ → LaneValue → LaneValue → Begin → Type 0
IsBeginning line o via old new begin.Begun = Begins line o via old new
IsBeginning line o via old new (begin.Refused outcome) = Refuses line via outcome old new
IsBeginning line o via old new (begin.Held by) = IsDocumentHeld o via by old new
IsBeginning line o via old new begin.NoMemory = new ≡ old

-- the lane's owner under the newest state, once it heard that state, begins the operation; nothing stands against either
pub record BeginsAtOwner (line : ℕ) (o : Operation) (old new : LaneValue) : Type 0 where
  pub owner : ℕ
  pub state : ClusterState
  pub newest : last_state old.journal ≡ Some state
  -- the journal once the owner heard that state
  pub heard : List LaneEvent
  pub heard_is : heard ≡ heard_next owner (Some state) old.journal
  pub acting : IsActing old.lane heard owner state
  pub free_to_hear : IsBehind owner old.journal → OfNone (IsBegunAt owner) old.under_way
  pub free : OfNone (IsOfDocument o.id) old.under_way
  pub after : new ≡ record old {
    journal = Begun line owner state.version o.id (drawn o.kind state.version heard) ∷ heard;
    under_way = old.under_way ++ under_way_of line o owner progress.Begun 65 ∷ [];
  }

-- an operation of the owner, which would hear a newer state, is under way; or else one of the document
pub record IsOwnerHeld (o : Operation) (by : ℕ) (old new : LaneValue) : Type 0 where
  pub owner : ℕ
  pub state : ClusterState
  pub newest : last_state old.journal ≡ Some state
  pub owns : IsOwner old.lane state owner
  pub cause : (IsBehind owner old.journal × OfFirst (IsBegunAt owner) old.under_way by)
      ⊎ ((IsBehind owner old.journal → OfNone (IsBegunAt owner) old.under_way) × OfFirst (IsOfDocument o.id) old.under_way by)
  pub same : new ≡ old

abbrev pub IsBeginningAtOwner : ℕ → Operation → LaneValue → LaneValue → Begin → Type 0
IsBeginningAtOwner line o old new begin.Begun = BeginsAtOwner line o old new
IsBeginningAtOwner line o old new (begin.Refused outcome) = ⊥
IsBeginningAtOwner line o old new (begin.Held by) = IsOwnerHeld o by old new
IsBeginningAtOwner line o old new begin.NoMemory = new ≡ old

-- ---- advance

-- it was begun, or is prepared: it wants to go on
abbrev pub WantsMore : Progress → Type 0
WantsMore progress.Begun = Unit {0}
WantsMore progress.Runs = Unit {0}
WantsMore _ = ⊥

-- the line's operation is under way, and wants to go on
abbrev pub MayAdvance : ℕ → List UnderWay → Type 0
MayAdvance line us = (at : ℕ) × (u : UnderWay) × IsPlace line us at u × WantsMore u.progress

-- the same but for the journal, the fates and how far the operation of a place is
abbrev pub with_run : LaneValue → List LaneEvent → List Fate → ℕ → UnderWay → LaneValue
with_run old J given at u = record old { journal = J; given = given; under_way = slice_set old.under_way at u }

-- ---- close

-- it is over, or memory was wanted
abbrev pub WantsEnd : Progress → Type 0
WantsEnd (progress.Over outcome) = Unit {0}
WantsEnd progress.Short = Unit {0}
WantsEnd _ = ⊥

abbrev pub MayClose : ℕ → List UnderWay → Type 0
MayClose line us = (at : ℕ) × (u : UnderWay) × IsPlace line us at u × WantsEnd u.progress

-- the outcome is that with which it is over, or NoMemory after want of memory
abbrev pub EndsAs : Progress → Outcome → Type 0
EndsAs (progress.Over x) outcome = outcome ≡ x
EndsAs progress.Short outcome = outcome ≡ NoMemory
EndsAs _ outcome = ⊥

-- the line is closed with the outcome, and its operation is under way no more
pub record Closes (line : ℕ) (outcome : Outcome) (old new : LaneValue) : Type 0 where
  pub at : ℕ
  pub operation : UnderWay
  pub place : IsPlace line old.under_way at operation
  pub ends : EndsAs operation.progress outcome
  pub after : new ≡ record old { journal = Closed line outcome ∷ old.journal; under_way = remove old.under_way at }

-- ---- what holds of each lane

-- those under way were begun and aren't closed, and each other line that was begun is
pub record LinesAre (H : Journal) (us : List UnderWay) : Type 0 where
  pub unclosed : (at : ℕ) (u : UnderWay) → slice_get us at ≡ Some u → IsSome (began u.line H) × (closed u.line H ≡ false)
  pub others : (line : ℕ) (begin : Beginning) → began line H ≡ Some begin → (closed line H ≡ true) ⊎ ((at : ℕ) × (u : UnderWay) × IsPlace line us at u)

-- what holds of each lane
pub record IsLaneValue (v : LaneValue) : Type 0 where
  pub legal : IsLegal (setting_of v.lane v.rules) v.journal
  pub carried : IsCarried v.given v.journal
  pub lines : LinesAre (history v.journal) v.under_way

-- The cluster after one line.
use Rattle.std.specs.Prelude.{◌≡◌, ◌<◌, ◌⊎◌, ℕ, true, false, List, [], ◌∷◌, ◌++◌, length, map, Option, None, Some, IfSome, IsSome, slice_get, slice_set}
use Rattle.bucket_ids.specs.Buckets.{IsIn}
use Rattle.carriers.specs.Fates.{planned_with}
use Rattle.carriers.specs.declared.fate.Fate.{Fate}
use Rattle.cluster_states.specs.Publishing.{Told, publish_fault}
use Rattle.cluster_states.specs.declared.cluster_state.ClusterState.{ClusterState}
use Rattle.cluster_states.specs.declared.states.PublishFault.{PublishFault}
use Rattle.messages.specs.declared.operation.Operation.{Operation}
use Rattle.messages.specs.declared.outcome.Outcome.{Outcome}
use Rattle.doc_types.specs.SchemaCodes.{Types}
use Rattle.lane_journals.specs.Buckets.{key_of}
use Rattle.lane_journals.specs.Meanings.{history}
use Rattle.lane_journals.specs.Places.{told}
use Rattle.lane_journals.specs.Readers.{held}
use Rattle.lane_keeping.specs.LaneKeeping.{setting_of}
use Rattle.lane_keeping.specs.Tidings.{announced, stopped_next, started_next, last_state}
use Rattle.lane_calls.specs.LaneValues.{LaneValue, IsLaneValue}
use Rattle.lane_calls.specs.Upkept.{Maintains}
use Rattle.lane_keeping.specs.Lines.{IsFresh}
use Rattle.lane_lives.specs.declared.setting.Setting.{Setting}
use Rattle.lane_core.specs.Passes.{IsPassed}
use Rattle.lane_core.specs.Runs.{IsLineRun}
use Rattle.lane_core.specs.Showing.{all_changes, view_in}
use Rattle.shelves.specs.Plain.{Plain}
use Rattle.view_changes.specs.Opening.{opening}
use Rattle.view_changes.specs.Views.{View}
use Rattle.lane_lives.specs.declared.spans.UpkeepSpan.{UpkeepSpan}
use Rattle.session_cluster.specs.Cells.{Cell, ShownLane, ShownCell}
use Rattle.session_cluster.specs.Deeds.{told_with}
use Rattle.session_cluster.specs.Lanes.{lane_of_id}
use Rattle.session_cluster.specs.Searches.{fronts_now}
use Rattle.session_cluster.specs.declared.asked.Asked.{Asked}
use Rattle.session_cluster.specs.declared.asked.Asked.TheVariants as command

-- ---- what every lane does

-- a lane in which room was made for a state, a stop or a start
abbrev pub with_room : LaneValue → LaneValue
with_room v = record v { has_room = true }

-- a lane but for that
abbrev pub without_room : LaneValue → LaneValue
without_room v = record v { has_room = false }

-- the same, but that room was made in some lanes
pub record IsRoomier (old new : Cell) : Type 0 where
  pub rest : new ≡ record old { lanes = new.lanes }
  pub lanes : map without_room new.lanes ≡ map without_room old.lanes

-- once a state was announced there, a node stopped or started
abbrev pub after_state : ClusterState → ℕ → LaneValue → LaneValue
after_state state deaf v = record v { journal = announced deaf state v.journal; has_room = false }

abbrev pub after_stop : ℕ → LaneValue → LaneValue
after_stop node v = record v { journal = stopped_next node v.journal; has_room = false }

abbrev pub after_start : ℕ → LaneValue → LaneValue
after_start node v = record v { journal = started_next node v.journal; has_room = false }

-- each lane is such a one
abbrev pub EachLane : {X : Type 0} → (X → Type 0) → List X → Type 0
EachLane {X} P vs = (lane : ℕ) (v : X) → slice_get vs lane ≡ Some v → P v

-- no operation is under way there, and these states are told
pub record IsTelling (t : Told) (v : LaneValue) : Type 0 where
  pub idle : v.under_way ≡ []
  pub told_is : told (setting_of v.lane v.rules) v.journal ≡ t

-- a lane in which room was made, and no operation is under way
pub record IsRoomy (v : LaneValue) : Type 0 where
  pub idle : v.under_way ≡ []
  pub room : v.has_room ≡ true

-- a state may be announced there
pub record MayAnnounce (state : ClusterState) (v : LaneValue) : Type 0 where
  pub roomy : IsRoomy v
  pub accepted : publish_fault (told (setting_of v.lane v.rules) v.journal) state ≡ None

-- ---- one line

-- the line's operation may run in a lane
pub record MayRun (line : ℕ) (op : Operation) (via : Option ℕ) (v : LaneValue) : Type 0 where
  pub idle : v.under_way ≡ []
  pub fresh : IsFresh (history v.journal) line
  pub published : IsSome (last_state v.journal)
  pub holds : IfSome via (λ d. IsSome (held d (history v.journal)))
  pub in_lane : IsIn v.lane (key_of op.id)

-- the operation ran in a lane, or was refused there, and ended so
pub record IsOperatedIn (at line : ℕ) (op : Operation) (via : Option ℕ) (old new : Cell) (outcome : Outcome) : Type 0 where
  pub before : LaneValue
  pub after : LaneValue
  pub there : slice_get old.lanes at ≡ Some before
  pub ran : IsLineRun (record { number = line; operation = op; via = via }) before after outcome
  pub now : new ≡ record old { lanes = slice_set old.lanes at after; dealt = line }

-- every lane did this, and each is legal
pub record IsDoneInEach (line : ℕ) (f : LaneValue → LaneValue) (old new : Cell) : Type 0 where
  pub now : new ≡ record old { lanes = map f old.lanes; dealt = line }
  pub holds : EachLane IsLaneValue new.lanes

-- the state is told, and every lane announced it
pub record IsPublished (line : ℕ) (state : ClusterState) (deaf : ℕ) (old new : Cell) : Type 0 where
  pub now : new ≡ record old { told = told_with None state old.told; lanes = map (after_state state deaf) old.lanes; dealt = line }
  pub holds : EachLane IsLaneValue new.lanes

-- a state against which something stands isn't told
abbrev pub IsStateTold : ℕ → Option PublishFault → ClusterState → ℕ → Cell → Cell → Type 0
IsStateTold line None state deaf old new = IsPublished line state deaf old new
IsStateTold line (Some why) state deaf old new = new ≡ record old { lanes = map with_room old.lanes; dealt = line }

-- the same where room was made before
abbrev pub IsToldRoomy : ℕ → Option PublishFault → ClusterState → ℕ → Cell → Cell → Type 0
IsToldRoomy line None state deaf old new = IsPublished line state deaf old new
IsToldRoomy line (Some why) state deaf old new = new ≡ record old { dealt = line }

-- the fates were planned in the lane, if its carrier takes plans
pub record IsPlannedIn (line lane : ℕ) (fates : List Fate) (old new : Cell) : Type 0 where
  pub before : LaneValue
  pub there : slice_get old.lanes lane ≡ Some before
  pub now : new ≡ record old { lanes = slice_set old.lanes lane (record before { planned = planned_with before.takes_plans before.planned fates }); dealt = line }

-- ---- upkeep

-- upkeep may be made in a lane
pub record MayMaintain (v : LaneValue) : Type 0 where
  pub idle : v.under_way ≡ []
  pub published : IsSome (last_state v.journal)

-- nothing was done in a lane, or a pass of upkeep was made, of which want of memory may have left out the rest
abbrev pub MayHavePassed : LaneValue → LaneValue → Type 0
MayHavePassed v w = (w ≡ v) ⊎ (Maintains v w × IsLaneValue w)

-- that is so of each lane
pub record MayHaveAllPassed (vs ws : List LaneValue) : Type 0 where
  pub count : length ws ≡ length vs
  pub each : (lane : ℕ) (v w : LaneValue) → slice_get vs lane ≡ Some v → slice_get ws lane ≡ Some w → MayHavePassed v w

-- each lane made the pass that its span tells, in the order of its rule
pub record AreSpans (vs ws : List LaneValue) (spans : List UpkeepSpan) : Type 0 where
  pub count : length spans ≡ length vs
  pub each : (lane : ℕ) (v w : LaneValue) (span : UpkeepSpan) → slice_get vs lane ≡ Some v → slice_get ws lane ≡ Some w
      → slice_get spans lane ≡ Some span → IsPassed span v w

-- these spans are noted for the line
pub record HasSpans (line : ℕ) (old new : Cell) : Type 0 where
  pub spans : List UpkeepSpan
  pub are : AreSpans old.lanes new.lanes spans
  pub noted : new.upkeeps ≡ old.upkeeps ++ record { line = line; spans = spans } ∷ []

-- the lanes may have made passes, and spans of all of them are noted, or none
pub record IsMaintained (line : ℕ) (old new : Cell) : Type 0 where
  pub lanes : MayHaveAllPassed old.lanes new.lanes
  pub now : new ≡ record old { lanes = new.lanes; dealt = line; upkeeps = new.upkeeps }
  pub spans : (new.upkeeps ≡ old.upkeeps) ⊎ HasSpans line old new

-- a line that asked for upkeep has its spans
abbrev pub IsSpanNoted : ℕ → Asked → Cell → Cell → Type 0
IsSpanNoted line command.Maintain old new = HasSpans line old new
IsSpanNoted line _ old new = Unit {0}

-- ---- searches

-- a lane has documents of these types
abbrev pub HasTypes : Types → LaneValue → Type 0
HasTypes types v = v.types ≡ types

-- how far the search read is noted, which is to the end of each lane's journal
abbrev pub IsNoted : ℕ → Cell → Cell → Type 0
IsNoted line old new = new ≡ record old { fronts = old.fronts ++ record { line = line; fronts = fronts_now old.lanes } ∷ [] }

-- and the line is dealt with by that
abbrev pub IsSearched : ℕ → Cell → Cell → Type 0
IsSearched line old new = new ≡ record old { dealt = line; fronts = old.fronts ++ record { line = line; fronts = fronts_now old.lanes } ∷ [] }

-- ---- what is shown

-- what the shelf of a lane has where all changes of its journal are shown
abbrev pub settled_shelf : LaneValue → Plain
settled_shelf v = record { opening = opening v.types; view = view_in v; pending = [] }

-- and a view counts them all
abbrev pub HasFew : LaneValue → Type 0
HasFew v = all_changes v < 18446744073709551615

abbrev pub IsSettledLane : ShownLane → Type 0
IsSettledLane s = (s.shelf ≡ settled_shelf s.lane) × HasFew s.lane

-- all changes of the lanes' journals are shown
pub record AreSettled (s : ShownCell) : Type 0 where
  pub shelves : s.shelves ≡ map settled_shelf s.cell.lanes
  pub few : EachLane HasFew s.cell.lanes

-- what a shelf showed at first
abbrev pub first_view : Plain → View
first_view p = p.opening

-- the view of a lane of which nothing was heard
abbrev pub unheard : LaneValue → View
unheard v = opening v.types

-- each shelf showed that of its lane at first
abbrev pub AreOpened : List LaneValue → List Plain → Type 0
AreOpened vs ps = map first_view ps ≡ map unheard vs

-- ---- any line

-- the line was dealt with
abbrev pub IsAfter : Setting → ℕ → Asked → Cell → Cell → Type 0
IsAfter s line command.Blank old new = new ≡ record old { dealt = line }
IsAfter s line command.TooLong old new = new ≡ record old { dealt = line }
IsAfter s line command.Barrier old new = new ≡ record old { dealt = line }
IsAfter s line (command.Bad why) old new = new ≡ record old { dealt = line }
IsAfter s line (command.Feed op via) old new = (outcome : Outcome) × IsOperatedIn (lane_of_id s.bits op.id) line op via old new outcome
IsAfter s line (command.State state deaf) old new = IsStateTold line (publish_fault old.told state) state deaf old new
IsAfter s line (command.BadState offset) old new = new ≡ record old { dealt = line }
IsAfter s line (command.Stop node) old new = IsDoneInEach line (after_stop node) old new
IsAfter s line (command.Start node) old new = IsDoneInEach line (after_start node) old new
IsAfter s line (command.Net lane fates) old new = IsPlannedIn line lane fates old new
IsAfter s line command.Maintain old new = IsMaintained line old new
IsAfter s line (command.Search q) old new = IsSearched line old new
IsAfter s line (command.BadQuery offset) old new = new ≡ record old { dealt = line }

-- and it has its spans, if it asked for upkeep
abbrev pub IsDealt : Setting → ℕ → Asked → Cell → Cell → Type 0
IsDealt s line asked old new = IsAfter s line asked old new × IsSpanNoted line asked old new

-- the line wasn't dealt with, or it was
abbrev pub IsAllOrNothing : Setting → ℕ → Asked → Cell → Cell → Type 0
IsAllOrNothing s line asked old new = IsRoomier old new ⊎ IsAfter s line asked old new

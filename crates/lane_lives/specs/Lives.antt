-- What happens in a lane of a session: the first state is published and heard by all, and then come further states,
-- stops and starts of nodes, upkeep, and the lines that ask for an operation there, one after the other, or many at once in
-- a segment. Nothing else happens.
use Rattle.std.specs.Prelude.{◌≡◌, ◌⊎◌, ℕ, List, [], ◌∷◌, ◌++◌, length, Option, None, Some, IsSome}
use Rattle.bucket_ids.specs.Buckets.{Low}
use Rattle.cluster_states.specs.declared.cluster_state.ClusterState.{ClusterState}
use Rattle.lane_journals.specs.declared.event.LaneEvent.{LaneEvent}
use Rattle.lane_journals.specs.declared.event.LaneEvent.TheVariants.{Published}
use Rattle.lane_keeping.specs.Tidings.{announced, stopped_next, started_next}
use Rattle.distributor_part.specs.declared.rules.Rules.{Rules}
use Rattle.lane_calls.specs.Lines.{FeedLine, Lines, IsCarriedOut}
use Rattle.lane_calls.specs.Readings.{outcome_in}
use Rattle.lane_calls.specs.Upkept.{IsMaintained}
use Rattle.lane_calls.specs.Segments.{IsAmong}
use Rattle.lane_calls.specs.Growth.{Grows}
use Rattle.lane_lives.specs.declared.setting.Setting.{Setting}
use Rattle.lane_lives.specs.declared.spans.UpkeepSpan.{UpkeepSpan}

-- ---- upkeep

-- the pass is all that the span has: the journal had so many events before it and behind it
pub record IsSpanned (lane : Low) (span : UpkeepSpan) (J K : List LaneEvent) : Type 0 where
  pub pass : IsMaintained lane J K
  pub from : span.from ≡ length J
  pub to : span.to ≡ length K

-- such a pass is made; where no span is noted of it, want of memory may have cut it, or kept it from beginning
abbrev pub MakesPass : Low → Option UpkeepSpan → List LaneEvent → List LaneEvent → Type 0
MakesPass lane None J K = (K ≡ J) ⊎ IsMaintained lane J K
MakesPass lane (Some span) J K = IsSpanned lane span J K

-- ---- a segment

-- the journal grew while feeders, so many of them, ran these lines at once; each of the lines has its outcome, but for those
-- that are left without one, for which memory was wanted
pub record AreFed (feeders : ℕ) (lines left : Lines) (lane : Low) (rules : Rules) (J K : List LaneEvent) : Type 0 where
  pub grew : Grows feeders lines lane rules J K
  pub answered : (line : FeedLine) → IsAmong lines line → IsAmong left line ⊎ IsSome (outcome_in line.number K)

-- ---- all that happens

pub data Deed : Type 0 where
  -- a state is published, which all distributors hear but the deaf ones
  Announces : ClusterState → ℕ → Deed
  -- a node stops, where it isn't stopped
  Stops : ℕ → Deed
  -- a node starts, where it is stopped
  Starts : ℕ → Deed
  -- a line asks for its operation
  Runs : FeedLine → Deed
  -- feeders, so many of them, run these lines at once, of which the newest stands first; and those that are left without an
  -- answer, unless memory was wanted none
  Feeds : ℕ → Lines → Lines → Deed
  -- upkeep is asked for, and its span is noted, unless memory was wanted
  Maintains : Option UpkeepSpan → Deed

-- what a deed does to a lane's journal
abbrev pub Does : Setting → Low → Deed → List LaneEvent → List LaneEvent → Type 0
Does s lane (Announces state deaf) J K = K ≡ announced deaf state J
Does s lane (Stops n) J K = K ≡ stopped_next n J
Does s lane (Starts n) J K = K ≡ started_next n J
Does s lane (Runs line) J K = IsCarriedOut lane s.rules line line.via J K
Does s lane (Feeds feeders lines left) J K = AreFed feeders lines left lane s.rules J K
Does s lane (Maintains noted) J K = MakesPass lane noted J K

-- the journal is what these deeds make, the newest first, after the first state was published and heard by all
abbrev pub IsLife : Setting → Low → List Deed → List LaneEvent → Type 0
IsLife s lane [] J = J ≡ announced 0 s.initial []
IsLife s lane (deed ∷ deeds) K = (J : List LaneEvent) × (IsLife s lane deeds J × Does s lane deed J K)

-- ---- the lines among them

-- the newest first
abbrev pub lines_of : List Deed → Lines
lines_of [] = []
lines_of (Runs line ∷ deeds) = line ∷ lines_of deeds
lines_of (Feeds feeders lines left ∷ deeds) = lines ++ lines_of deeds
lines_of (_ ∷ deeds) = lines_of deeds

-- no feeders are among the deeds: lines come one after the other
abbrev pub AreAlone : List Deed → Type 0
AreAlone [] = Unit {0}
AreAlone (Feeds feeders lines left ∷ deeds) = ⊥
AreAlone (_ ∷ deeds) = AreAlone deeds

-- ---- the states and nodes among them

-- the states that were published, the oldest first
abbrev pub states_in : Setting → List Deed → List ClusterState
states_in s [] = s.initial ∷ []
states_in s (Announces state deaf ∷ deeds) = states_in s deeds ++ state ∷ []
states_in s (_ ∷ deeds) = states_in s deeds

-- the one that was published last
abbrev pub newest_in : Setting → List Deed → ClusterState
newest_in s [] = s.initial
newest_in s (Announces state deaf ∷ deeds) = state
newest_in s (_ ∷ deeds) = newest_in s deeds

-- the events of states and nodes that these deeds make
abbrev pub deed_events : Setting → List Deed → List LaneEvent
deed_events s [] = Published s.initial ∷ []
deed_events s (Announces state deaf ∷ deeds) = Published state ∷ deed_events s deeds
deed_events s (Stops n ∷ deeds) = stopped_next n (deed_events s deeds)
deed_events s (Starts n ∷ deeds) = started_next n (deed_events s deeds)
deed_events s (Runs line ∷ deeds) = deed_events s deeds
deed_events s (Feeds feeders lines left ∷ deeds) = deed_events s deeds
deed_events s (Maintains noted ∷ deeds) = deed_events s deeds

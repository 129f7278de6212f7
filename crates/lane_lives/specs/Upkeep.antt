-- What a lane of a session says of its upkeep.
use Rattle.std.specs.Prelude.{◌≡◌, ◌⊎◌, ◌<◌, ◌≤◌, ℕ, true, false, List, ◌++◌, length, None, Some}
use Rattle.bucket_ids.specs.Buckets.{Low}
use Rattle.carriers.specs.declared.fate.Fate.{Fate}
use Rattle.cluster_states.specs.Publishing.{serves}
use Rattle.cluster_states.specs.declared.cluster_state.ClusterState.{ClusterState}
use Rattle.lane_journals.specs.Meanings.{history}
use Rattle.lane_journals.specs.Readers.{stopped}
use Rattle.lane_journals.specs.declared.event.LaneEvent.{LaneEvent}
use Rattle.lane_carriage.specs.Carriage.{IsCarried}
use Rattle.lane_carriage.specs.Readers.{fate_of, is_returned}
use Rattle.upkeep_spans.specs.Causes.{first_late, IsCause}
use Rattle.upkeep_spans.specs.Spans.{later}
use Rattle.upkeep_spans.specs.declared.answers.Upkeep.TheVariants.{Rested}
use Rattle.lane_keeping.specs.Tidings.{last_state}
use Rattle.lane_calls.specs.LaneValues.{LaneValue}
use Rattle.lane_calls.specs.Upkept.{Maintains, HaveRun, IsLaneAtRest, IsMaintained}
use Rattle.lane_lives.specs.Rested.{RestsIn}
use Rattle.lane_lives.specs.declared.setting.Setting.{Setting}
use Rattle.lane_lives.specs.Lives.{Deed, IsLife}
use Rattle.lane_lives.specs.declared.spans.UpkeepSpan.{UpkeepSpan}

-- ---- one upkeep

-- nothing was done, or a pass was made, of which want of memory may have left out the rest
abbrev pub MayBeUpkept : LaneValue → LaneValue → Type 0
MayBeUpkept old new = (new ≡ old) ⊎ Maintains old new

-- nothing disturbed a pass between two journals with the fates of their messages: each node that serves under the newest
-- state ran, each message that was sent had a fate that lets its reply come back, and no late one was delivered
pub record WasCalm (before after : List LaneEvent) (earlier fates : List Fate) : Type 0 where
  pub state : ClusterState
  pub newest : last_state before ≡ Some state
  pub run : (n : ℕ) → serves state n ≡ true → stopped n (history before) ≡ false
  pub answered : (k : ℕ) → length earlier < k → k ≤ length fates → is_returned (fate_of k fates) ≡ true
  pub unlate : first_late fates (later (length before) after) ≡ None

-- a pass was made, which came to what its events tell, and rested where nothing disturbed it; where it rested each node
-- that serves ran, and the lane is at rest
pub record IsSpan (span : UpkeepSpan) (old new : LaneValue) : Type 0 where
  pub pass : Maintains old new
  pub from : span.from ≡ length old.journal
  pub to : span.to ≡ length new.journal
  pub cause : IsCause new.given span.from new.journal span.answer
  pub rests : WasCalm old.journal new.journal old.given new.given → span.answer ≡ Rested
  pub run : span.answer ≡ Rested → HaveRun new.journal
  pub at_rest : span.answer ≡ Rested → IsLaneAtRest new

-- ---- in the whole journal

-- the span of an upkeep stands behind all that these earlier deeds made, and before all that came later, in a journal to
-- whose messages the carrier gave these fates
pub record SpanStands (s : Setting) (lane : Low) (deeds : List Deed) (given : List Fate) (J : List LaneEvent) (span : UpkeepSpan) : Type 0 where
  -- the journal as upkeep was asked for, and as it was made
  pub before : List LaneEvent
  pub after : List LaneEvent
  pub behind : IsLife s lane deeds before
  pub pass : IsMaintained lane before after
  pub from : span.from ≡ length before
  pub to : span.to ≡ length after
  -- what came later
  pub later : List LaneEvent
  pub whole : J ≡ later ++ after
  -- the carrier gave some fates before the pass, some in it, and others later, one for each message
  pub earlier : List Fate
  pub fates : List Fate
  pub others : List Fate
  pub all_given : given ≡ (earlier ++ fates) ++ others
  pub carried_before : IsCarried earlier before
  pub carried : IsCarried (earlier ++ fates) after
  -- its answer is what its events tell, by the fates that the carrier had given as it ended
  pub cause : IsCause (earlier ++ fates) span.from after span.answer
  pub rests : WasCalm before after earlier (earlier ++ fates) → span.answer ≡ Rested
  -- where that is Rested, each node that serves under the newest state ran, and the lane was at rest as the span ended
  pub run : span.answer ≡ Rested → HaveRun after
  pub at_rest : span.answer ≡ Rested → RestsIn s lane after

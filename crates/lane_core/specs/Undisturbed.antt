-- When an upkeep rests, or wants memory.
use Rattle.std.specs.Prelude.{◌≡◌, ◌≤◌, ◌<◌, ℕ, true, false, length, [], None, Some}
use Rattle.cluster_states.specs.declared.cluster_state.ClusterState.{ClusterState}
use Rattle.cluster_states.specs.Publishing.{serves}
use Rattle.lane_journals.specs.Readers.{stopped}
use Rattle.lane_journals.specs.Meanings.{history}
use Rattle.lane_carriage.specs.Readers.{fate_of, is_returned}
use Rattle.upkeep_spans.specs.Spans.{later}
use Rattle.upkeep_spans.specs.Causes.{first_late}
use Rattle.lane_keeping.specs.Tidings.{last_state}
use Rattle.lane_calls.specs.LaneValues.{LaneValue}

-- no operation is under way, each node that serves under the newest state runs, the fate of each message of the call
-- lets its reply come back, and no late message is delivered
pub record IsUndisturbed (old new : LaneValue) : Type 0 where
  pub idle : old.under_way ≡ []
  pub state : ClusterState
  pub newest : last_state old.journal ≡ Some state
  pub run : (n : ℕ) → serves state n ≡ true → stopped n (history old.journal) ≡ false
  pub answered : (k : ℕ) → length old.given < k → k ≤ length new.given → is_returned (fate_of k new.given) ≡ true
  pub unlate : first_late new.given (later (length old.journal) new.journal) ≡ None

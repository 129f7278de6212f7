-- What an upkeep that rested leaves for searches.
use Rattle.std.specs.Prelude.{◌≡◌, ℕ, false, List, [], ◌∷◌, Some}
use Rattle.bucket_ids.specs.Buckets.{Low}
use Rattle.cluster_states.specs.declared.cluster_state.ClusterState.{ClusterState}
use Rattle.lane_journals.specs.Readers.{version, stopped}
use Rattle.lane_journals.specs.Facts.{InRegion}
use Rattle.lane_journals.specs.Meanings.{history}
use Rattle.lane_journals.specs.declared.event.LaneEvent.{LaneEvent}
use Rattle.lane_keeping.specs.LaneKeeping.{setting_of}
use Rattle.lane_keeping.specs.Tidings.{last_state}
use Rattle.lane_rest.specs.Rest.{IsAtRest}
use Rattle.lane_lives.specs.declared.setting.Setting.{Setting}
use Rattle.lane_lives.specs.Lives.{Deed, Announces, Stops}

-- the lane of a session is at rest
abbrev pub RestsIn : Setting → Low → List LaneEvent → Type 0
RestsIn s lane J = IsAtRest (setting_of lane s.rules) (s.rules).searchable (s.rules).split_at J

-- a node that runs, at the version of the newest state, has the key in its region there: so a search reads it
pub record IsCovered (key : ℕ) (J : List LaneEvent) : Type 0 where
  pub state : ClusterState
  pub newest : last_state J ≡ Some state
  pub node : ℕ
  pub current : version node (history J) ≡ state.version
  pub runs : stopped node (history J) ≡ false
  pub region : InRegion state.version node key (history J)

-- no state is announced, and no node stops
abbrev pub AreCalm : List Deed → Type 0
AreCalm [] = Unit {0}
AreCalm (Announces state deaf ∷ deeds) = ⊥
AreCalm (Stops n ∷ deeds) = ⊥
AreCalm (_ ∷ deeds) = AreCalm deeds

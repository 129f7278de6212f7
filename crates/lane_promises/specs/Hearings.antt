-- Who hears which state in a lane of a session.
use Rattle.std.specs.Prelude.{◌≡◌, ◌⊎◌, ℕ, false, List, [], ◌∷◌, ◌++◌, Some}
use Rattle.bucket_ids.specs.Buckets.{Low}
use Rattle.node_sets.specs.Members.{has_node}
use Rattle.cluster_states.specs.declared.cluster_state.ClusterState.{ClusterState}
use Rattle.ideal_nodes.specs.Placement.{IsOwner}
use Rattle.lane_journals.specs.declared.event.LaneEvent.{LaneEvent}
use Rattle.lane_keeping.specs.Tidings.{last_state}
use Rattle.lane_lives.specs.declared.setting.Setting.{Setting}
use Rattle.lane_lives.specs.Lives.{Deed, Announces, newest_in}

-- the distributors that are deaf to the state that was published last; none is to the first
abbrev pub deaf_in : List Deed → ℕ
deaf_in [] = 0
deaf_in (Announces state deaf ∷ deeds) = deaf
deaf_in (_ ∷ deeds) = deaf_in deeds

-- the state is one of those that were published, and the distributor isn't deaf to it
pub record WasTold (s : Setting) (deeds : List Deed) (state : ClusterState) (d : ℕ) : Type 0 where
  -- the deeds while it was the newest, and those that came later
  pub before : List Deed
  pub later : List Deed
  pub deeds_are : deeds ≡ later ++ before
  pub newest : newest_in s before ≡ state
  pub hears : has_node (deaf_in before) d ≡ false

-- the distributor that heard a version after this journal heard the state that was published last: it was told of it,
-- or it owns the lane under it
pub record HeardNewest (s : Setting) (lane : Low) (deeds : List Deed) (before : List LaneEvent) (d version : ℕ) : Type 0 where
  pub state : ClusterState
  pub newest : last_state before ≡ Some state
  pub version_is : version ≡ state.version
  pub why : WasTold s deeds state d ⊎ IsOwner lane state d

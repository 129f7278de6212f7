-- What deeds say of states.
use Rattle.std.proofs.Common.{◌≡◌, Bool, true, false, List, [], ◌∷◌, ◌++◌, Some, refl, ap, if◌then◌else◌}
use Rattle.cluster_states.specs.declared.cluster_state.ClusterState.{ClusterState}
use Rattle.lane_journals.specs.Readers.{stopped}
use Rattle.lane_journals.specs.Meanings.{history}
use Rattle.lane_journals.specs.Places.{published_states}
use Rattle.lane_journals.specs.declared.event.LaneEvent.{LaneEvent}
use Rattle.lane_keeping.specs.Tidings.{last_state}
use Rattle.lane_lives.specs.declared.setting.Setting.{Setting}
use Rattle.lane_lives.specs.Lives.{Deed, Announces, Stops, Starts, Runs, Feeds, Maintains, states_in, newest_in, deed_events}

either : {A : Type 0} (f : List LaneEvent → A) (t : Bool) (E F : List LaneEvent) (a : A) → f E ≡ a → f F ≡ a → f (if t then E else F) ≡ a
either f true E F a x y = x
either f false E F a x y = y

pub states_told : (s : Setting) (deeds : List Deed) → published_states (deed_events s deeds) ≡ states_in s deeds
states_told s [] = refl
states_told s (Announces state deaf ∷ deeds) = ap (λ (ss : List ClusterState). ss ++ state ∷ []) (states_told s deeds)
states_told s (Stops n ∷ deeds) = either published_states (stopped n (history (deed_events s deeds))) _ _ _ (states_told s deeds) (states_told s deeds)
states_told s (Starts n ∷ deeds) = either published_states (stopped n (history (deed_events s deeds))) _ _ _ (states_told s deeds) (states_told s deeds)
states_told s (Runs line ∷ deeds) = states_told s deeds
states_told s (Feeds feeders lines left ∷ deeds) = states_told s deeds
states_told s (Maintains noted ∷ deeds) = states_told s deeds

pub newest_told : (s : Setting) (deeds : List Deed) → last_state (deed_events s deeds) ≡ Some (newest_in s deeds)
newest_told s [] = refl
newest_told s (Announces state deaf ∷ deeds) = refl
newest_told s (Stops n ∷ deeds) = either last_state (stopped n (history (deed_events s deeds))) _ _ _ (newest_told s deeds) (newest_told s deeds)
newest_told s (Starts n ∷ deeds) = either last_state (stopped n (history (deed_events s deeds))) _ _ _ (newest_told s deeds) (newest_told s deeds)
newest_told s (Runs line ∷ deeds) = newest_told s deeds
newest_told s (Feeds feeders lines left ∷ deeds) = newest_told s deeds
newest_told s (Maintains noted ∷ deeds) = newest_told s deeds

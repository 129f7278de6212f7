-- What searches read of the lanes.
use Rattle.std.specs.Prelude.{ℕ, List, [], ◌∷◌, map, take, Option, None, Some, option_and_then, slice_get}
use Rattle.cluster_states.specs.Publishing.{Told, newest_of}
use Rattle.cluster_states.specs.declared.cluster_state.ClusterState.{ClusterState}
use Rattle.doc_types.specs.SchemaCodes.{Types}
use Rattle.lane_changes.specs.Changes.{changes_of}
use Rattle.lane_core.specs.Showing.{all_changes}
use Rattle.lane_calls.specs.LaneValues.{LaneValue}
use Rattle.session_cluster.specs.Lanes.{Journal}
use Rattle.session_cluster.specs.Noted.{noted_of}
use Rattle.session_cluster.specs.declared.searching.LineFronts.{LineFronts}
use Rattle.view_changes.specs.Opening.{opening}
use Rattle.view_changes.specs.Views.{View, view_after}

-- ---- how far they read

-- the fronts of a search that was answered: in each lane how many changes of its journal were read
abbrev pub fronts_of : ℕ → List LineFronts → Option (List ℕ)
fronts_of line fs = noted_of (λ (f : LineFronts). f.line) (λ (f : LineFronts). f.fronts) line fs

-- that of a lane among them
abbrev pub front_in : ℕ → ℕ → List LineFronts → Option ℕ
front_in lane line fs = option_and_then (λ fronts. slice_get fronts lane) (fronts_of line fs)

-- all changes of a lane's journal as it stands
abbrev pub front_now : LaneValue → ℕ
front_now v = all_changes v

abbrev pub fronts_now : List LaneValue → List ℕ
fronts_now vs = map front_now vs

-- ---- what they see

-- the view of a lane after the first so many changes of its journal
abbrev pub view_to : Types → ℕ → Journal → View
view_to types g J = view_after (opening types) (take g (changes_of J))

-- of each lane
abbrev pub views_to : Types → List ℕ → List Journal → List View
views_to types (g ∷ gs) (J ∷ Js) = view_to types g J ∷ views_to types gs Js
views_to types _ _ = []

-- the version of the state that was told last
abbrev pub version_of : Option ClusterState → ℕ
version_of None = 0
version_of (Some state) = state.version

abbrev pub version_now : Told → ℕ
version_now t = version_of (newest_of t.states)

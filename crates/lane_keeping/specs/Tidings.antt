-- By which events a journal grows as a lane is told of states, and of nodes that stop and start.
use Rattle.std.specs.Prelude.{ℕ, zero, suc, Bool, true, List, [], ◌∷◌, Option, None, Some, nat_lt, if◌then◌else◌}
use Rattle.node_sets.specs.Members.{has_node}
use Rattle.cluster_states.specs.declared.cluster_state.ClusterState.{ClusterState}
use Rattle.lane_journals.specs.Readers.{held, stopped}
use Rattle.lane_journals.specs.Meanings.{history}
use Rattle.lane_journals.specs.declared.event.LaneEvent.{LaneEvent}
use Rattle.lane_journals.specs.declared.event.LaneEvent.TheVariants.{Published, Heard, Stopped, Started}

-- ---- states

-- the state that was published last
abbrev pub last_state : List LaneEvent → Option ClusterState
last_state [] = None
last_state (Published s ∷ J) = Some s
last_state (_ ∷ J) = last_state J

-- who holds this version, or none, is to hear another
abbrev pub is_older : Option ℕ → ℕ → Bool
is_older None v = true
is_older (Some w) v = nat_lt w v

-- the version of the state that a part has
abbrev pub version_held : Option ClusterState → Option ℕ
version_held None = None
version_held (Some s) = Some s.version

-- the distributor hears the newest state, if it holds none or an older one
abbrev pub heard_next : ℕ → Option ClusterState → List LaneEvent → List LaneEvent
heard_next d None J = J
heard_next d (Some s) J = if is_older (held d (history J)) s.version then Heard d s.version ∷ J else J

-- the distributors below a number hear the state, but the deaf ones, in rising number
unfoldable pub heard_below : ℕ → ℕ → ClusterState → List LaneEvent → List LaneEvent
heard_below zero deaf s J = J
heard_below (suc d) deaf s J = if has_node deaf d then heard_below d deaf s J else Heard d s.version ∷ heard_below d deaf s J

-- the state is published, and all hear it but the deaf ones
abbrev pub announced : ℕ → ClusterState → List LaneEvent → List LaneEvent
announced deaf s J = heard_below 32 deaf s (Published s ∷ J)

-- ---- nodes

-- no node stops or starts
abbrev pub IsNoStop : LaneEvent → Type 0
IsNoStop (Stopped n) = ⊥
IsNoStop (Started n) = ⊥
IsNoStop _ = Unit {0}

-- the node stops, where it isn't stopped
abbrev pub stopped_next : ℕ → List LaneEvent → List LaneEvent
stopped_next n J = if stopped n (history J) then J else Stopped n ∷ J

-- the node starts, where it is stopped
abbrev pub started_next : ℕ → List LaneEvent → List LaneEvent
started_next n J = if stopped n (history J) then Started n ∷ J else J

-- The states that were published, and why a state isn't.
use Rattle.std.specs.Prelude.{◌≡◌, ◌&&◌, ◌+◌, ◌-◌, ◌≤◌, ℕ, zero, suc, Bool, true, not, List, length, Option, None, Some, nat_le, nat_lt, nat_eq, slice_get, slice_index_or, if◌then◌else◌}
use Rattle.std.specs.List.{count_by, list_any}
use Rattle.std.specs.Option.{option_or}
use Rattle.node_sets.specs.Members.{has_node}
use Rattle.cluster_states.specs.MarkTests.{is_up, counts}
use Rattle.cluster_states.specs.declared.marks.Mark.TheVariants.{Down}
use Rattle.cluster_states.specs.ClusterStates.{State}
use Rattle.cluster_states.specs.declared.states.PublishFault.{PublishFault}
use Rattle.cluster_states.specs.declared.states.PublishFault.TheVariants.{NotNewer, NoDistributor, TooFewUp, TooManyOut, TooManyStates}

-- how many acknowledgements a write needs, and the states so far, oldest first
pub record Told : Type 0 where
  pub acks : ℕ
  pub states : List State

-- the last state
abbrev pub newest_of : List State → Option State
newest_of states = slice_get states (length states - 1)

-- a state has this version
abbrev pub version_is : ℕ → State → Bool
version_is version s = nat_eq s.version version

-- a node serves under a state: it is up or retired
abbrev pub serves : State → ℕ → Bool
serves s n = counts true (slice_index_or s.nodes n Down)

-- a node served under one of the states
abbrev pub is_known : List State → ℕ → Bool
is_known states n = list_any (λ s. serves s n) states

-- how many numbers below an end pass a test
abbrev pub how_many : (ℕ → Bool) → ℕ → ℕ
how_many p zero = 0
how_many p (suc n) = how_many p n + (if p n then 1 else 0)

-- how many nodes are up and not retired
abbrev pub up_of : State → ℕ
up_of s = count_by is_up s.nodes

-- how many known nodes don't serve under a state
unfoldable pub out_of : List State → State → ℕ
out_of states s = how_many (λ n. is_known states n && not (serves s n)) 32

abbrev pub older_fault : Option State → State → Option PublishFault
older_fault None s = None
older_fault (Some newest) s = if nat_le s.version newest.version then Some (NotNewer newest.version) else None

-- no distributor is up
abbrev pub distributor_fault : State → Option PublishFault
distributor_fault s = if nat_eq (count_by is_up s.distributors) 0 then Some NoDistributor else None

-- fewer nodes are up than a write needs
abbrev pub up_fault : ℕ → State → Option PublishFault
up_fault acks s = if nat_lt (up_of s) acks then Some (TooFewUp (up_of s) acks) else None

-- so many known nodes don't serve that a write may be on them alone
abbrev pub out_fault : Told → State → Option PublishFault
out_fault told s = if nat_le told.acks (out_of told.states s) then Some (TooManyOut (out_of told.states s) told.acks) else None

-- there is no room for a state more
abbrev pub room_fault : List State → Option PublishFault
room_fault states = if nat_eq (length states) 65 then Some TooManyStates else None

-- why a state isn't published, the first cause that holds
abbrev pub publish_fault : Told → State → Option PublishFault
publish_fault told s = option_or (older_fault (newest_of told.states) s)
    (option_or (distributor_fault s) (option_or (up_fault told.acks s) (option_or (out_fault told s) (room_fault told.states))))

-- what is kept of the states
pub record IsHistory (states : List State) (set : ℕ) : Type 0 where
  pub few : length states ≤ 65
  pub known : (n : ℕ) → has_node set n ≡ is_known states n

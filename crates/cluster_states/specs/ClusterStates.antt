-- What a cluster state says.
use Rattle.std.specs.Prelude.{◌≢◌, ℕ, ◌^◌, ◌%◌, ◌<◌, ◌≤◌, List, [], ◌∷◌, length}
use Rattle.std.specs.List.{All}
use Rattle.cluster_states.specs.declared.marks.Mark.{Mark}
use Rattle.cluster_states.specs.declared.marks.Mark.TheVariants.{Up, Retired}

-- the version, the marks of the distributors and of the storage nodes, from number 0 on, and how many groups
-- the storage nodes lie in
pub record State : Type 0 where
  pub version : ℕ
  pub distributors : List Mark
  pub nodes : List Mark
  pub groups : ℕ

-- the group of a storage node
abbrev pub group_of : State → ℕ → ℕ
group_of s n = n % s.groups

-- counts are 1 to 32, no distributor is retired, and there are 1 to 8 groups; so it is of every state
pub record IsState (s : State) : Type 0 where
  pub version : s.version < 2 ^ 32
  pub some_distributors : 1 ≤ length s.distributors
  pub few_distributors : length s.distributors ≤ 32
  pub some_nodes : 1 ≤ length s.nodes
  pub few_nodes : length s.nodes ≤ 32
  pub plain : All (λ m. m ≢ Retired) s.distributors
  pub some_groups : 1 ≤ s.groups
  pub few_groups : s.groups ≤ 8

-- version 0 with one distributor and one storage node, both up, in one group
abbrev pub first_state : State
first_state = record { version = 0; distributors = Up ∷ []; nodes = Up ∷ []; groups = 1 }

-- The ideal order and the owner under a cluster state.
use Rattle.std.specs.Prelude.{◌≡◌, ◌≢◌, ◌⊎◌, ◌↔◌, ◌&&◌, ◌<◌, ◌≤◌, ℕ, Bool, true, List, length, codes, slice_index_or, nat_lt, nat_eq}
use Rattle.bucket_ids.specs.Buckets.{Low}
use Rattle.cluster_states.specs.ClusterStates.{group_of}
use Rattle.cluster_states.specs.MarkTests.{is_up}
use Rattle.cluster_states.specs.Publishing.{how_many}
use Rattle.cluster_states.specs.declared.marks.Mark.TheVariants.{Down}
use Rattle.cluster_states.specs.declared.cluster_state.ClusterState.{ClusterState}
use Rattle.ideal_nodes.specs.Scores.{score_of, IsRanked, Ranks, ranks_before, Comes, Has}

-- a node is up, and not retired
abbrev pub node_up : ClusterState → ℕ → Bool
node_up s n = is_up (slice_index_or s.nodes n Down)

-- a node that is up, lies in a node's group and ranks before it
abbrev pub goes_ahead : Low → ClusterState → ℕ → ℕ → Bool
goes_ahead bucket s node other =
    node_up s other && (nat_eq (group_of s other) (group_of s node) && ranks_before (score_of (codes "ideal") bucket) other node)

-- the rank of a node: how many of its group go ahead of it
unfoldable pub rank_of : Low → ClusterState → ℕ → ℕ
rank_of bucket s node = how_many (goes_ahead bucket s node) (length s.nodes)

-- the first of two nodes precedes the second in the ideal order: by the lower rank, then by the greater score,
-- then by the lower number
abbrev pub Precedes : Low → ClusterState → ℕ → ℕ → Type 0
Precedes bucket s = Comes (rank_of bucket s) (score_of (codes "ideal") bucket)

-- the list has each node that is up once, in the ideal order
pub record IsIdeal (bucket : Low) (s : ClusterState) (nodes : List ℕ) : Type 0 where
  pub ranked : IsRanked (Precedes bucket s) nodes
  pub members : (n : ℕ) → (node_up s n ≡ true) ↔ Has n nodes

-- a group has a node that is up
abbrev pub group_up : ClusterState → ℕ → Bool
group_up s group = nat_lt 0 (how_many (λ n. node_up s n && nat_eq (group_of s n) group) (length s.nodes))

-- how many groups have one
abbrev pub groups_up : ClusterState → ℕ
groups_up s = how_many (group_up s) s.groups

-- the first nodes, as many as there are groups with a node that is up, lie in different groups
pub record LieApart (s : ClusterState) (nodes : List ℕ) : Type 0 where
  pub many : groups_up s ≤ length nodes
  pub apart : (i j : ℕ) → i < j → j < groups_up s → group_of s (slice_index_or nodes i 0) ≢ group_of s (slice_index_or nodes j 0)

-- a distributor that is up and ranks before every other one that is
pub record IsOwner (lane : Low) (s : ClusterState) (n : ℕ) : Type 0 where
  pub up : is_up (slice_index_or s.distributors n Down) ≡ true
  pub first : (other : ℕ) → is_up (slice_index_or s.distributors other Down) ≡ true → (other ≡ n) ⊎ Ranks (score_of (codes "owner") lane) n other

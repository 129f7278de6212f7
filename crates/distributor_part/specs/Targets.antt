-- Where the replicas of a row are to be.
use Rattle.std.specs.Prelude.{◌≡◌, ◌⊎◌, ◌↔◌, ◌<◌, ℕ, true, false, take, List, Option, Some, None}
use Rattle.bucket_ids.specs.Buckets.{Low}
use Rattle.node_sets.specs.Members.{has_node}
use Rattle.cluster_states.specs.declared.cluster_state.ClusterState.{ClusterState}
use Rattle.ideal_nodes.specs.Scores.{Has}
use Rattle.ideal_nodes.specs.Placement.{Precedes, IsIdeal}

-- the node is among the first of the bucket's ideal order, as many as there are to be replicas
pub record IsAmongFirst (redundancy : ℕ) (state : ClusterState) (bucket : Low) (node : ℕ) : Type 0 where
  pub ideal : List ℕ
  pub is_ideal : IsIdeal bucket state ideal
  pub among : Has node (take redundancy ideal)

-- one of those, or the row's active node
abbrev pub IsTarget : ℕ → ClusterState → Low → Option ℕ → ℕ → Type 0
IsTarget redundancy state bucket active node = IsAmongFirst redundancy state bucket node ⊎ (active ≡ Some node)

-- the set of the targets
abbrev pub AreTargets : ℕ → ClusterState → Low → Option ℕ → ℕ → Type 0
AreTargets redundancy state bucket active set =
    (node : ℕ) → (has_node set node ≡ true) ↔ IsTarget redundancy state bucket active node

-- ---- searches

-- the first node of a bucket's ideal list under a state that is a member of the set
pub record IsFirstMember (bucket : Low) (state : ClusterState) (list : List ℕ) (members node : ℕ) : Type 0 where
  pub listed : Has node list
  pub member : has_node members node ≡ true
  pub first : (other : ℕ) → Has other list → has_node members other ≡ true
      → (other ≡ node) ⊎ Precedes bucket state node other

-- the first complete member of a row in its ideal order
pub record IsFirstComplete (state : ClusterState) (bucket : Low) (complete node : ℕ) : Type 0 where
  pub ideal : List ℕ
  pub is_ideal : IsIdeal bucket state ideal
  pub is_first : IsFirstMember bucket state ideal complete node

-- the node that a row's activation goes to: the active node, or else the first complete member
abbrev pub IsToBeActive : ClusterState → Low → ℕ → Option ℕ → ℕ → Type 0
IsToBeActive state bucket complete (Some active) node = active ≡ node
IsToBeActive state bucket complete None node = IsFirstComplete state bucket complete node

-- no node of the ideal order is a complete member
abbrev pub LacksComplete : ClusterState → Low → ℕ → Type 0
LacksComplete state bucket complete =
    (ideal : List ℕ) → IsIdeal bucket state ideal → (node : ℕ) → Has node ideal → has_node complete node ≡ false

-- the set of the nodes that are to be ready: the first of the ideal order, as many as are to be ready for searches, and the one that
-- is to be active
abbrev pub AreToBeReady : ℕ → ClusterState → Low → ℕ → Option ℕ → ℕ → Type 0
AreToBeReady searchable state bucket complete active set =
    (node : ℕ) → (has_node set node ≡ true) ↔ (IsAmongFirst searchable state bucket node ⊎ IsToBeActive state bucket complete active node)

-- ---- numbers of nodes

-- all are numbers of nodes
abbrev pub AreSmall : List ℕ → Type 0
AreSmall nodes = (node : ℕ) → Has node nodes → node < 32

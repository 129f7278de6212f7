-- The ideal orders that a part keeps.
use Rattle.std.specs.Prelude.{Option, Some, None}
use Rattle.cluster_states.specs.declared.cluster_state.ClusterState.{ClusterState}
use Rattle.ideal_nodes.specs.Placement.{IsIdeal}
use Rattle.distributor_part.specs.declared.heard.Order.{Order}

-- what is kept at a place is the ideal order of its bucket under the state that was heard
abbrev pub IsOrder : Option ClusterState → Option Order → Type 0
IsOrder heard None = Unit {0}
IsOrder None (Some order) = ⊥
IsOrder (Some state) (Some order) = IsIdeal order.bucket state order.nodes

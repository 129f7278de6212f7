use Rattle.cluster_states.proofs.SpaceMoves.{space_moves, space_stops}
use Rattle.cluster_states.proofs.signs.at_space.Goals as goal

pub returns-in-Some : goal.returns-in-Some
returns-in-Some c = rw c.at.ensures (space_moves _ _ _ _ c.in-Some.number c.in-Some.ensures c.requires)

pub returns-in-None : goal.returns-in-None
returns-in-None c = space_stops _ _ _ _ c.in-None.ensures c.requires

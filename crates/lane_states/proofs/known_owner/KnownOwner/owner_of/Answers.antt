use Rattle.lane_states.proofs.KnownOwners.{known-owns}
use Rattle.lane_states.proofs.known_owner.KnownOwner.owner_of.Goals as goal

pub returns-then-eq-2 : goal.returns-then-eq-2
returns-then-eq-2 c = known-owns c.self.inside.lane c.args.lane c.args.state.now c.self.inside.distributors c.distributors_up.result c.self.inside.owner c.if-eq.ensures c.if-eq-2.ensures c.distributors_up.ensures c.self.invariant

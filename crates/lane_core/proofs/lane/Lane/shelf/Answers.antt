use Rattle.lane_core.proofs.Shelves.{has-first}
use Rattle.lane_core.proofs.lane.Lane.shelf.Goals as goal

pub returns-clause-holds : goal.returns-clause-holds
returns-clause-holds g c = rw (← c.self.view_is) (has-first g.H.Shelf.shows g.H.Shelf.pending c.self.inside.shelf c.self.inside.work c.self.inside.carrier.given c.self.invariant)

use Rattle.upkeep_spans.specs.Watches.{takes_plans, planned_in}
use Rattle.lane_core.proofs.Shelves.{with-shelf, lane_still}
use Rattle.lane_core.proofs.lane.Lane.stop.Goals as goal

pub invariant_of-self : goal.invariant_of-self
invariant_of-self g c = lane_still g.H.Shelf.shows g.H.Shelf.pending c.self.inside.shelf c.self.inside.work c.stop.new.self c.self.inside.carrier.given c.self.inside.carrier.given c.self.invariant c.stop.ensures.keeps (c.stop.ensures.carried c.self.inside.carrier.given c.self.invariant.carried) c.stop.ensures.handed

pub returns : goal.returns
returns g c = rw (← c.self.view_is) (with-shelf c.self.inside.shelf (c.stop.ensures.after c.self.inside.carrier.given (planned_in c.self.inside.carrier.plans) (takes_plans c.self.inside.carrier.plans)))

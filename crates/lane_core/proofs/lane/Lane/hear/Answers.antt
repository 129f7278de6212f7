use Rattle.upkeep_spans.specs.Watches.{takes_plans, planned_in}
use Rattle.lane_core.proofs.Shelves.{lane_still}
use Rattle.lane_core.proofs.lane.Lane.hear.Goals as goal

pub invariant_of-self : goal.invariant_of-self
invariant_of-self g c = lane_still g.H.Shelf.shows g.H.Shelf.pending c.self.inside.shelf c.self.inside.work c.hear.new.self c.self.inside.carrier.given c.self.inside.carrier.given c.self.invariant c.hear.ensures.keeps (c.hear.ensures.carried c.self.inside.carrier.given c.self.invariant.carried) c.hear.ensures.handed

pub returns-clause-hears : goal.returns-clause-hears
returns-clause-hears g c = rw (← c.self.view_is) (c.hear.ensures.hears c.self.inside.carrier.given (planned_in c.self.inside.carrier.plans) (takes_plans c.self.inside.carrier.plans))

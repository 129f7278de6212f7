use Rattle.upkeep_spans.specs.Watches.{takes_plans, planned_in}
use Rattle.lane_core.proofs.Shelves.{lane_still}
use Rattle.lane_core.proofs.lane.Lane.begin_at_owner.Goals as goal

pub invariant_of-self : goal.invariant_of-self
invariant_of-self g c = lane_still g.H.Shelf.shows g.H.Shelf.pending c.self.inside.shelf c.self.inside.work c.begin_at_owner.new.self c.self.inside.carrier.given c.self.inside.carrier.given c.self.invariant c.begin_at_owner.ensures.keeps (c.begin_at_owner.ensures.carried c.self.inside.carrier.given c.self.invariant.carried) c.begin_at_owner.ensures.handed

pub returns-clause-begins : goal.returns-clause-begins
returns-clause-begins g c = rw (← c.self.view_is) (c.begin_at_owner.ensures.begins c.self.inside.carrier.given (planned_in c.self.inside.carrier.plans) (takes_plans c.self.inside.carrier.plans))

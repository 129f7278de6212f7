use Rattle.lane_core.proofs.LaneJobs.{may-close-job}
use Rattle.upkeep_spans.specs.Watches.{takes_plans, planned_in}
use Rattle.lane_core.proofs.Shelves.{lane_still}
use Rattle.lane_core.proofs.lane.Lane.close.Goals as goal

pub close-requires-clause-over : goal.close-requires-clause-over
close-requires-clause-over g c = may-close-job c.self.inside.work.jobs.items c.args.line (rw (← c.self.view_is) at c.requires)

pub invariant_of-self : goal.invariant_of-self
invariant_of-self g c = lane_still g.H.Shelf.shows g.H.Shelf.pending c.self.inside.shelf c.self.inside.work c.close.new.self c.self.inside.carrier.given c.self.inside.carrier.given c.self.invariant c.close.ensures.keeps (c.close.ensures.carried c.self.inside.carrier.given c.self.invariant.carried) c.close.ensures.handed

pub returns-clause-closes : goal.returns-clause-closes
returns-clause-closes g c = rw (← c.self.view_is) (c.close.ensures.closes c.self.inside.carrier.given (planned_in c.self.inside.carrier.plans) (takes_plans c.self.inside.carrier.plans))

use Rattle.proof_basics.proofs.Results.{on_ok, on_err}
use Rattle.upkeep_spans.specs.Watches.{takes_plans, planned_in}
use Rattle.lane_core.proofs.Shelves.{with-shelf, lane_still}
use Rattle.lane_core.proofs.lane.Lane.room.Goals as goal

pub invariant_of-self : goal.invariant_of-self
invariant_of-self g c = lane_still g.H.Shelf.shows g.H.Shelf.pending c.self.inside.shelf c.self.inside.work c.room.new.self c.self.inside.carrier.given c.self.inside.carrier.given c.self.invariant c.room.ensures.keeps (c.room.ensures.carried c.self.inside.carrier.given c.self.invariant.carried) c.room.ensures.handed

pub returns-clause-ok : goal.returns-clause-ok
returns-clause-ok g c = rw (← c.self.view_is) (on_ok c.room.result (λ h. with-shelf c.self.inside.shelf (h c.self.inside.carrier.given (planned_in c.self.inside.carrier.plans) (takes_plans c.self.inside.carrier.plans))) c.room.ensures.ok)

pub returns-clause-err : goal.returns-clause-err
returns-clause-err g c = rw (← c.self.view_is) (on_err c.room.result (λ h. with-shelf c.self.inside.shelf (h c.self.inside.carrier.given (planned_in c.self.inside.carrier.plans) (takes_plans c.self.inside.carrier.plans))) c.room.ensures.err)

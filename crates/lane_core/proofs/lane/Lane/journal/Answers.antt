use Rattle.std.proofs.Common.{subst}
use Rattle.upkeep_spans.specs.Watches.{takes_plans, planned_in}
use Rattle.lane_calls.specs.LaneValues.{IsLaneValue}
use Rattle.lane_core.proofs.Shelves.{lane-is}
use Rattle.lane_core.proofs.Shown.{lane-value}
use Rattle.lane_core.proofs.lane.Lane.journal.Goals as goal

pub returns-clause-lane : goal.returns-clause-lane
returns-clause-lane g c = subst IsLaneValue (lane-is c.self.view_is) (lane-value g.H.Shelf.shows g.H.Shelf.pending c.self.inside.work c.self.inside.carrier.given (planned_in c.self.inside.carrier.plans) (takes_plans c.self.inside.carrier.plans) c.self.inside.shelf c.self.invariant)

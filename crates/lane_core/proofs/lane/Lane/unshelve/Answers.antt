use Rattle.std.proofs.lemmas.List.{append-nil}
use Rattle.upkeep_spans.specs.Watches.{takes_plans, planned_in}
use Rattle.lane_states.specs.LaneStates.{handed_of}
use Rattle.lane_core.proofs.lane.Lane.unshelve.Goals as goal

pub invariant_of-result : goal.invariant_of-result
invariant_of-result g c = record {
  works = c.drop_kept.ensures.keeps;
  carried = c.drop_kept.ensures.carried c.self.inside.carrier.given c.self.invariant.carried;
  holds = (handed_of c.drop_kept.new.self.state, (tt, append-nil (handed_of c.drop_kept.new.self.state)));
}

pub returns : goal.returns
returns g c = rw (← c.self.view_is) (c.drop_kept.ensures.same c.self.inside.carrier.given (planned_in c.self.inside.carrier.plans) (takes_plans c.self.inside.carrier.plans))

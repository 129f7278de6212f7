use Rattle.lane_core.proofs.lane.Lane.held.Goals as goal

pub returns : goal.returns
returns g c = rw (← c.self.view_is) c.held.ensures

use Rattle.lane_core.proofs.lane.Lane.change_count.Goals as goal

pub returns : goal.returns
returns g c = rw (← c.self.view_is) c.change_count.ensures

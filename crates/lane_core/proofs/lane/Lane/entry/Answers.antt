use Rattle.lane_core.proofs.lane.Lane.entry.Goals as goal

pub entry_in-requires : goal.entry_in-requires
entry_in-requires g c = record { finds = rw c.deref.ensures.value c.self.invariant.works.finds }

pub returns : goal.returns
returns g c = rw (← c.self.view_is) (rw c.deref.ensures.value at c.entry_in.ensures)

use Rattle.lane_core.proofs.Shelves.{holds-same}
use Rattle.lane_core.proofs.lane.Lane.tell.Goals as goal

pub invariant_of-self : goal.invariant_of-self
invariant_of-self g c = record {
  works = c.self.invariant.works;
  carried = c.self.invariant.carried;
  holds = holds-same g.H.Shelf.shows g.H.Shelf.pending _ _ _ c.tell.ensures.shown c.tell.ensures.pending c.self.invariant.holds;
}

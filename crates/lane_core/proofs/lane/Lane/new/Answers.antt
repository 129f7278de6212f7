use Rattle.std.proofs.Common.{sym, subst, List, []}
use Rattle.carriers.specs.declared.fate.Fate.{Fate}
use Rattle.view_changes.specs.declared.change.LaneChange.{LaneChange}
use Rattle.shelves.specs.Shelves.{Holds}
use Rattle.lane_core.specs.LaneInside.{IsLane}
use Rattle.lane_core.proofs.lane.Lane.new.Goals as goal

pub invariant_of-result : goal.invariant_of-result
invariant_of-result g c = subst (λ (given : List Fate). IsLane g.H.Shelf.shows g.H.Shelf.pending c.in_ok-work.work given c.args.shelf) (sym c.new-3.ensures.given) (record {
  works = c.in_ok-work.ensures.keeps;
  carried = c.in_ok-work.ensures.carried;
  holds = subst (λ (all : List LaneChange). Holds (g.H.Shelf.shows c.args.shelf) (g.H.Shelf.pending c.args.shelf) all) (sym c.in_ok-work.ensures.handed) ([], (c.requires.shown, c.requires.pending));
})

pub returns-clause-lane : goal.returns-clause-lane
returns-clause-lane g c =
    rw (c.new-3.ensures.given, c.new-3.ensures.planned, c.new-3.ensures.kind) (rw (c.new.ensures.bits, c.new.ensures.low, c.from.ensures) at c.in_ok-work.ensures.value [] (g.C.Carrier.planned c.args.carrier) (g.C.Carrier.takes_plans c.args.carrier))

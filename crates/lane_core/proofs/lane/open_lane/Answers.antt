use Rattle.std.proofs.Common.{◌∙◌, [], sym, ap, subst}
use Rattle.lane_lives.proofs.FirstEvents.{opened_serves}
use Rattle.lane_lives.specs.Serving.{IsServing}
use Rattle.lane_core.proofs.Shelves.{lane-is, shelf-is}
use Rattle.lane_core.proofs.lane.open_lane.Goals as goal

pub returns-clause-new : goal.returns-clause-new
returns-clause-new g c =
    subst (IsServing c.args.setting.now (g.C.Carriers.plans c.args.carriers.now c.args.lane) c.args.lane []) (sym c.settle.ensures.lane)
    (opened_serves c.args.setting.now _ _ _ c.args.lane _ _ _ _ c.in_ok-carrier.ensures.planned (rw c.requires.types at c.in_ok-made.ensures.lane) (lane-is c.in_ok-room.ensures.ok) c.none.ensures (lane-is c.announce.ensures) c.journal-journal.ensures.lane)

pub returns-clause-name : goal.returns-clause-name
returns-clause-name g c = c.settle.ensures.name ∙ ap g.H.Shelf.name (shelf-is c.announce.ensures ∙ (shelf-is c.in_ok-room.ensures.ok ∙ c.in_ok-made.ensures.shelf))

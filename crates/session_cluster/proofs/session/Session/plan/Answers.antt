use Rattle.std.proofs.Common.{ap, sym, refl, arith}
use Rattle.session_cluster.proofs.InLane.{look_up, planned_in, plan_settled, plan_told}
use Rattle.session_cluster.proofs.ShelvedLanes.{cell_of, lanes_of, shelves_of, are_settled}
use Rattle.session_cluster.proofs.session.Session.plan.Goals as goal

pub index_mut-there-requires : goal.index_mut-there-requires
index_mut-there-requires g c =
    let below = look_up _ _ c.args.self.now.cell c.self.inside.lanes.items c.requires.there (ap lanes_of c.self.view_is) c.from.ensures in
    omega (arith, below, c.self.inside.lanes.ok)

pub returns-clause-ok : goal.returns-clause-ok
returns-clause-ok g c =
    let s = c.index_mut-there.result.now in (
      planned_in c.args.line c.args.lane c.from.result c.items.result.now c.args.fates.now c.args.self.now.cell _ c.self.inside.lanes.items s c.plan.new.self c.in_ok-taken.taken c.requires.there (ap cell_of c.self.view_is) refl c.from.ensures
          c.index_mut-there.ensures.value c.items.ensures c.in_ok-taken.ensures.taken c.in_ok-taken.ensures.ok,
      plan_told c.args.lane c.from.result c.items.result.now c.args.self.now.cell c.self.inside.lanes.items s c.plan.new.self c.in_ok-taken.taken c.requires.there (ap lanes_of c.self.view_is) c.from.ensures c.in_ok-taken.ensures.taken
          c.in_ok-taken.ensures.ok,
    )

pub returns-clause-settled : goal.returns-clause-settled
returns-clause-settled g c =
    let below = look_up _ _ c.args.self.now.cell c.self.inside.lanes.items c.requires.there (ap lanes_of c.self.view_is) c.from.ensures in
    are_settled _ _ refl refl
    (plan_settled c.args.self.now c.self.inside.lanes.items c.from.result c.items.result.now c.index_mut-there.result.now c.plan.new.self c.in_ok-taken.taken (sym (ap lanes_of c.self.view_is)) (sym (ap shelves_of c.self.view_is)) below
    c.index_mut-there.ensures.value c.requires.settled c.in_ok-taken.ensures.ok)

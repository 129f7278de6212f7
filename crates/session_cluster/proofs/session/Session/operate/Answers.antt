use Rattle.std.proofs.Common.{ap, sym, refl, inr, arith}
use Rattle.proof_basics.proofs.Results.{err_then}
use Rattle.session_cluster.proofs.InLane.{look_up, found, operated_in, ran_settled}
use Rattle.session_cluster.proofs.ShelvedLanes.{cell_of, lanes_of, shelves_of, are_settled}
use Rattle.session_cluster.proofs.session.Session.operate.Goals as goal

pub index_mut-lane-requires : goal.index_mut-lane-requires
index_mut-lane-requires g c =
    let below = look_up _ _ c.args.self.now.cell c.self.inside.lanes.items c.requires.there (ap lanes_of c.self.view_is) c.from.ensures in
    omega (arith, below, c.self.inside.lanes.ok)

pub run_line-requires-clause-idle : goal.run_line-requires-clause-idle
run_line-requires-clause-idle g c =
    (c.requires.may _ (found _ _ c.args.self.now.cell c.self.inside.lanes.items _ c.requires.there (ap lanes_of c.self.view_is) c.from.ensures c.index_mut-lane.ensures.value)).idle

pub run_line-requires-clause-fresh : goal.run_line-requires-clause-fresh
run_line-requires-clause-fresh g c =
    (c.requires.may _ (found _ _ c.args.self.now.cell c.self.inside.lanes.items _ c.requires.there (ap lanes_of c.self.view_is) c.from.ensures c.index_mut-lane.ensures.value)).fresh

pub run_line-requires-clause-published : goal.run_line-requires-clause-published
run_line-requires-clause-published g c =
    (c.requires.may _ (found _ _ c.args.self.now.cell c.self.inside.lanes.items _ c.requires.there (ap lanes_of c.self.view_is) c.from.ensures c.index_mut-lane.ensures.value)).published

pub run_line-requires-clause-holds : goal.run_line-requires-clause-holds
run_line-requires-clause-holds g c =
    (c.requires.may _ (found _ _ c.args.self.now.cell c.self.inside.lanes.items _ c.requires.there (ap lanes_of c.self.view_is) c.from.ensures c.index_mut-lane.ensures.value)).holds

pub run_line-requires-clause-in_lane : goal.run_line-requires-clause-in_lane
run_line-requires-clause-in_lane g c =
    (c.requires.may _ (found _ _ c.args.self.now.cell c.self.inside.lanes.items _ c.requires.there (ap lanes_of c.self.view_is) c.from.ensures c.index_mut-lane.ensures.value)).in_lane

pub returns-in_err-settle-clause-err : goal.returns-in_err-settle-clause-err
returns-in_err-settle-clause-err g c =
    err_then c.from_residual-in_err-settle.result (inr (
      c.in_ok-outcome.outcome,
      operated_in c.args.line _ c.from.result c.args.operation.now _ c.args.self.now.cell _ c.self.inside.lanes.items _ c.run_line.new.lane c.settle.new.self _ c.requires.there (ap cell_of c.self.view_is) refl c.from.ensures c.index_mut-lane.ensures.value
          c.in_ok-outcome.ensures.ok c.settle.ensures.lane,
    ))

pub returns-clause-ok : goal.returns-clause-ok
returns-clause-ok g c =
    operated_in c.args.line _ c.from.result c.args.operation.now _ c.args.self.now.cell _ c.self.inside.lanes.items _ c.run_line.new.lane c.settle.new.self _ c.requires.there (ap cell_of c.self.view_is) refl c.from.ensures c.index_mut-lane.ensures.value
    c.in_ok-outcome.ensures.ok c.settle.ensures.lane

pub returns-clause-settled : goal.returns-clause-settled
returns-clause-settled g c =
    let below = look_up _ _ c.args.self.now.cell c.self.inside.lanes.items c.requires.there (ap lanes_of c.self.view_is) c.from.ensures in
    are_settled _ _ refl refl
    (ran_settled _ c.args.self.now c.self.inside.lanes.items c.from.result _ c.run_line.new.lane c.settle.new.self _ (sym (ap lanes_of c.self.view_is)) (sym (ap shelves_of c.self.view_is)) below c.index_mut-lane.ensures.value c.requires.settled
    c.in_ok-outcome.ensures.ok c.run_line.ensures.shelf c.settle.ensures.lane c.settle.ensures.name c.in_ok-settle.ensures.settled)

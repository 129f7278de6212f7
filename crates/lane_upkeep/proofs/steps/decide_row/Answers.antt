use Rattle.std.proofs.Common.{OnOk, sym, subst}
use Rattle.messages.specs.declared.decision.Decision.{Decision}
use Rattle.proof_basics.proofs.Results.{on_ok}
use Rattle.lane_upkeep.specs.UnderWay.{MayDecide, DidDecide}
use Rattle.lane_upkeep.proofs.Decided.{did_split, did_join}
use Rattle.lane_upkeep.proofs.steps.decide_row.Goals as goal

pub returns-in-RowSplit-clause-did : goal.returns-in-RowSplit-clause-did
returns-in-RowSplit-clause-did c =
    let x = c.args.lane.now in
    let e = c.split_row.new.lane in
    let o = c.args.owner.now in
    subst (λ (y : Decision). OnOk c.split_row.result (DidDecide x e o c.args.at y)) (sym c.in-RowSplit.is)
    (on_ok c.split_row.result (did_split x e o c.args.at c.in-RowSplit.bucket (subst (λ (y : Decision). MayDecide x o c.args.at y) c.in-RowSplit.is c.requires.may)) c.split_row.ensures.did)

pub returns-in-RowsJoined-clause-did : goal.returns-in-RowsJoined-clause-did
returns-in-RowsJoined-clause-did c =
    let x = c.args.lane.now in
    let e = c.join_rows.new.lane in
    let o = c.args.owner.now in
    subst (λ (y : Decision). OnOk c.join_rows.result (DidDecide x e o c.args.at y)) (sym c.in-RowsJoined.is)
    (on_ok c.join_rows.result (did_join x e o c.args.at c.in-RowsJoined.parent (subst (λ (y : Decision). MayDecide x o c.args.at y) c.in-RowsJoined.is c.requires.may)) c.join_rows.ensures.did)

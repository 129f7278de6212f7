use Rattle.std.proofs.Common.{inr, ap, sym, subst, ◌∙◌}
use Rattle.cluster_states.specs.Publishing.{publish_fault}
use Rattle.proof_basics.proofs.Results.{err_then}
use Rattle.session_cluster.specs.Cells.{Cell}
use Rattle.session_cluster.specs.Steps.{IsStateTold}
use Rattle.session_cluster.proofs.InLane.{told_where_roomy, may_announce_after, told_unheard}
use Rattle.session_cluster.proofs.ShelvedLanes.{cell_of, shelves_of, still_opened}
use Rattle.session_cluster.proofs.session.Session.tell.Goals as goal

pub tell_roomy-answer-requires : goal.tell_roomy-answer-requires
tell_roomy-answer-requires g c = may_announce_after c.args.state.now c.args.self.now.cell c.make_room.new.self.cell (ap cell_of c.in_ok-make_room.ensures.ok) c.requires.telling

pub settle-requires : goal.settle-requires
settle-requires g c =
    let told = told_where_roomy c.args.line c.args.state.now c.args.deaf c.args.self.now.cell c.make_room.new.self.cell _ _ (ap cell_of c.in_ok-make_room.ensures.ok) c.tell_roomy-answer.ensures.told c.tell_roomy-answer.ensures.value in
    still_opened c.args.self.now c.tell_roomy-answer.new.self c.requires.settled (c.tell_roomy-answer.ensures.shelves ∙ ap shelves_of c.in_ok-make_room.ensures.ok)
    (told_unheard c.args.line _ c.args.state.now c.args.deaf c.args.self.now.cell c.tell_roomy-answer.new.self.cell told.0)

pub returns-in_err-settle-clause-err : goal.returns-in_err-settle-clause-err
returns-in_err-settle-clause-err g c =
    let told = told_where_roomy c.args.line c.args.state.now c.args.deaf c.args.self.now.cell c.make_room.new.self.cell _ _ (ap cell_of c.in_ok-make_room.ensures.ok) c.tell_roomy-answer.ensures.told c.tell_roomy-answer.ensures.value in
    err_then c.from_residual-in_err-settle.result (inr (subst (λ (x : Cell). IsStateTold c.args.line (publish_fault c.args.self.now.cell.told c.args.state.now) c.args.state.now c.args.deaf c.args.self.now.cell x) (sym c.settle.ensures.cell) told.0))

pub returns-clause-ok : goal.returns-clause-ok
returns-clause-ok g c =
    let told = told_where_roomy c.args.line c.args.state.now c.args.deaf c.args.self.now.cell c.make_room.new.self.cell _ _ (ap cell_of c.in_ok-make_room.ensures.ok) c.tell_roomy-answer.ensures.told c.tell_roomy-answer.ensures.value in
    (subst (λ (x : Cell). IsStateTold c.args.line (publish_fault c.args.self.now.cell.told c.args.state.now) c.args.state.now c.args.deaf c.args.self.now.cell x) (sym c.settle.ensures.cell) told.0, told.1)

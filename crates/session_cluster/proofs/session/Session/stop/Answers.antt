use Rattle.std.proofs.Common.{refl, inr, ap, sym, subst, ◌∙◌}
use Rattle.proof_basics.proofs.Results.{err_then}
use Rattle.session_cluster.specs.Cells.{Cell}
use Rattle.session_cluster.specs.Steps.{after_stop, IsDoneInEach}
use Rattle.session_cluster.proofs.InLane.{done_roomy, roomy_after, done_unheard}
use Rattle.session_cluster.proofs.ShelvedLanes.{cell_of, shelves_of, still_opened}
use Rattle.session_cluster.proofs.session.Session.stop.Goals as goal

pub stop_roomy-requires-clause-roomy : goal.stop_roomy-requires-clause-roomy
stop_roomy-requires-clause-roomy g c = roomy_after c.args.self.now.cell c.make_room.new.self.cell (ap cell_of c.in_ok-make_room.ensures.ok) c.requires.telling

pub settle-requires : goal.settle-requires
settle-requires g c =
    still_opened c.args.self.now c.stop_roomy.new.self c.requires.settled (c.stop_roomy.ensures.shelves ∙ ap shelves_of c.in_ok-make_room.ensures.ok)
    (done_unheard c.args.line (after_stop c.args.node) c.args.self.now.cell c.stop_roomy.new.self.cell (λ v. refl)
    (done_roomy c.args.line (after_stop c.args.node) c.args.self.now.cell c.make_room.new.self.cell _ (λ v. refl) (ap cell_of c.in_ok-make_room.ensures.ok) c.stop_roomy.ensures.done))

pub returns-in_err-settle-clause-err : goal.returns-in_err-settle-clause-err
returns-in_err-settle-clause-err g c =
    err_then c.from_residual-in_err-settle.result (inr (subst (λ (x : Cell). IsDoneInEach c.args.line (after_stop c.args.node) c.args.self.now.cell x) (sym c.settle.ensures.cell)
    (done_roomy c.args.line (after_stop c.args.node) c.args.self.now.cell c.make_room.new.self.cell _ (λ v. refl) (ap cell_of c.in_ok-make_room.ensures.ok) c.stop_roomy.ensures.done)))

pub returns-clause-ok : goal.returns-clause-ok
returns-clause-ok g c = (
  subst (λ (x : Cell). IsDoneInEach c.args.line (after_stop c.args.node) c.args.self.now.cell x) (sym c.settle.ensures.cell)
      (done_roomy c.args.line (after_stop c.args.node) c.args.self.now.cell c.make_room.new.self.cell _ (λ v. refl) (ap cell_of c.in_ok-make_room.ensures.ok) c.stop_roomy.ensures.done),
  refl,
)

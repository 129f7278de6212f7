use Rattle.std.proofs.Common.{Some, inr, ap, ◌∙◌, sym, subst, map}
use Rattle.proof_basics.proofs.Results.{err_then}
use Rattle.session_cluster.specs.Cells.{Cell}
use Rattle.session_cluster.specs.Output.{upkeep_answer}
use Rattle.session_cluster.specs.Spans.{spans_of}
use Rattle.session_cluster.specs.Steps.{IsMaintained, HasSpans, unheard}
use Rattle.session_cluster.proofs.InLane.{passed_unheard}
use Rattle.session_cluster.proofs.Passing.{noted_is, noted_answer}
use Rattle.session_cluster.proofs.ShelvedLanes.{cell_of, lanes_of, shelves_of, still_opened}
use Rattle.session_cluster.proofs.session.Session.maintain.Goals as goal

pub settle-requires : goal.settle-requires
settle-requires g c =
    let noted = c.in_ok-note.ensures.ok in
    still_opened c.args.self.now c.note.new.self c.requires.settled (ap shelves_of noted ∙ c.maintain_lanes.ensures.shelves)
    (ap (map unheard) (ap lanes_of noted) ∙ passed_unheard c.args.self.now.cell.lanes c.maintain_lanes.new.self.cell.lanes c.maintain_lanes.ensures.passed)

pub returns-in_err-settle-clause-err : goal.returns-in_err-settle-clause-err
returns-in_err-settle-clause-err g c =
    err_then c.from_residual-in_err-settle.result (inr (subst (λ (x : Cell). IsMaintained c.args.line c.args.self.now.cell x) (sym c.settle.ensures.cell)
    (noted_is c.args.line c.args.self.now.cell c.maintain_lanes.new.self.cell c.note.new.self.cell _ c.maintain_lanes.ensures.now c.maintain_lanes.ensures.passed c.in_ok-maintain_lanes.ensures.spans (ap cell_of c.in_ok-note.ensures.ok)).0))

pub returns-clause-ok : goal.returns-clause-ok
returns-clause-ok g c =
    let are = c.in_ok-maintain_lanes.ensures.spans in
    let after = ap cell_of c.in_ok-note.ensures.ok in (
      subst (λ (x : Cell). IsMaintained c.args.line c.args.self.now.cell x) (sym c.settle.ensures.cell)
          (noted_is c.args.line c.args.self.now.cell c.maintain_lanes.new.self.cell c.note.new.self.cell _ c.maintain_lanes.ensures.now c.maintain_lanes.ensures.passed are after).0,
      c.answer_of-answer.ensures ∙ ap (λ spans. upkeep_answer (Some spans)) c.deref.ensures.value
          ∙ (noted_answer c.args.line c.args.self.now.cell c.maintain_lanes.new.self.cell c.note.new.self.cell _ c.maintain_lanes.ensures.now c.maintain_lanes.ensures.passed are after c.requires.new
          ∙ ap (λ (x : Cell). upkeep_answer (spans_of c.args.line x.upkeeps)) (sym c.settle.ensures.cell)),
    )

pub returns-clause-noted : goal.returns-clause-noted
returns-clause-noted g c =
    subst (λ (x : Cell). HasSpans c.args.line c.args.self.now.cell x) (sym c.settle.ensures.cell)
    (noted_is c.args.line c.args.self.now.cell c.maintain_lanes.new.self.cell c.note.new.self.cell _ c.maintain_lanes.ensures.now c.maintain_lanes.ensures.passed c.in_ok-maintain_lanes.ensures.spans (ap cell_of c.in_ok-note.ensures.ok)).1

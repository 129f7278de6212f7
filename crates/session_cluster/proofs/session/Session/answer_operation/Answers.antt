use Rattle.std.proofs.Common.{◌≡◌, ◌⊎◌, ap, ◌∙◌, subst, inr}
use Rattle.proof_basics.proofs.Results.{err_then}
use Rattle.std.proofs.lemmas.Result.{IfOk-weaker}
use Rattle.messages.specs.declared.outcome.Outcome.{Outcome}
use Rattle.session_cluster.specs.Cells.{journals_of}
use Rattle.session_cluster.specs.Lanes.{journal_in}
use Rattle.session_cluster.specs.Output.{outcome_answer, entry_of}
use Rattle.session_cluster.specs.Steps.{IsOperatedIn}
use Rattle.session_cluster.proofs.InLane.{in_bounds, may_run, some_line}
use Rattle.session_cluster.proofs.LaneLists.{lane_is}
use Rattle.session_cluster.proofs.Reports.{answered}
use Rattle.session_cluster.proofs.session.Session.answer_operation.Goals as goal

pub operate-requires-clause-there : goal.operate-requires-clause-there
operate-requires-clause-there g c = in_bounds _ _ _ c.args.operation.now _ c.requires.ready (lane_is _ _ _ _ c.lane_at-at.ensures.value c.key_of-key.ensures.value)

pub operate-requires-clause-line : goal.operate-requires-clause-line
operate-requires-clause-line g c = some_line _ _ _ c.requires.ready

pub operate-requires-clause-may : goal.operate-requires-clause-may
operate-requires-clause-may g c = may_run _ _ _ c.args.operation.now _ _ c.requires.ready (lane_is _ _ _ _ c.lane_at-at.ensures.value c.key_of-key.ensures.value) c.requires.number

pub returns-clause-ok : goal.returns-clause-ok
returns-clause-ok g c =
    let x = c.in_ok-outcome.outcome in
    let new = c.operate.new.self.cell in
    let at = lane_is _ _ _ _ c.lane_at-at.ensures.value c.key_of-key.ensures.value in
    let done = subst (λ n. IsOperatedIn n c.args.line c.args.operation.now c.args.via c.args.self.now.cell new x) at c.in_ok-outcome.ensures.ok in
    IfOk-weaker c.answer.result _ _ (λ answer told. (
      (x, done),
      answered c.args.setting.now c.args.self.now.cell new c.args.line c.args.operation.now c.args.via x answer done
          (told ∙ ap (λ n. outcome_answer x (entry_of x (journal_in n (journals_of new)))) at),
    )) c.answer.ensures

pub returns-in_err-outcome-clause-err : goal.returns-in_err-outcome-clause-err
returns-in_err-outcome-clause-err g c =
    let at = lane_is _ _ _ _ c.lane_at-at.ensures.value c.key_of-key.ensures.value in
    err_then c.from_residual.result (subst (λ n. (c.operate.new.self.cell ≡ c.args.self.now.cell) ⊎ ((ending : Outcome) × IsOperatedIn n c.args.line c.args.operation.now c.args.via c.args.self.now.cell c.operate.new.self.cell ending)) at c.in_err-outcome.ensures.err)

pub returns-clause-err : goal.returns-clause-err
returns-clause-err g c =
    let at = lane_is _ _ _ _ c.lane_at-at.ensures.value c.key_of-key.ensures.value in
    err_then c.answer.result
    (inr (c.in_ok-outcome.outcome, subst (λ n. IsOperatedIn n c.args.line c.args.operation.now c.args.via c.args.self.now.cell c.operate.new.self.cell c.in_ok-outcome.outcome) at c.in_ok-outcome.ensures.ok))

-- The answer of a line is that of the event that ends it.
use Rattle.std.proofs.Common.{◌≡◌, ℕ, Option, sym, ap, ◌∙◌}
use Rattle.messages.specs.declared.operation.Operation.{Operation}
use Rattle.messages.specs.declared.outcome.Outcome.{Outcome}
use Rattle.reports.specs.declared.answer.Answer.{Answer}
use Rattle.lane_lives.specs.declared.setting.Setting.{Setting}
use Rattle.session_cluster.specs.Cells.{Cell, journals_of}
use Rattle.session_cluster.specs.Lanes.{lane_of_id, journal_in}
use Rattle.session_cluster.specs.Output.{outcome_answer, entry_of, closed_answer, operation_answer}
use Rattle.session_cluster.specs.Steps.{IsOperatedIn}
use Rattle.session_cluster.proofs.Moving.{outcome_after}

pub answered : (s : Setting) (old new : Cell) (k : ℕ) (op : Operation) (via : Option ℕ) (x : Outcome) (a : Option Answer) → IsOperatedIn (lane_of_id s.bits op.id) k op via old new x
    → a ≡ outcome_answer x (entry_of x (journal_in (lane_of_id s.bits op.id) (journals_of new))) → a ≡ operation_answer s k op.id (journals_of new)
answered s old new k op via x a d told =
    told ∙ sym (ap (λ o. closed_answer o (journal_in (lane_of_id s.bits op.id) (journals_of new))) (outcome_after s op via old new k x d))

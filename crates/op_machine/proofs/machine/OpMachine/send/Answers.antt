use Rattle.std.proofs.Common.{sym, ap, ◌∙◌}
use Rattle.op_machine.specs.Outcomes.{message_in}
use Rattle.op_machine.specs.Standings.{next_at}
use Rattle.op_machine.proofs.NextLaws.{may_answer}
use Rattle.op_machine.proofs.machine.OpMachine.send.Goals as goal

pub returns-clause-asked : goal.returns-clause-asked
returns-clause-asked c = may_answer _ _ (c.in_ok-message.ensures.message ∙ ap (λ s. message_in (next_at s)) (sym c.next_message.ensures.kept))

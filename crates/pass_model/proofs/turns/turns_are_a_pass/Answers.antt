use Rattle.pass_model.proofs.Turning.{turns-pass}
use Rattle.pass_model.proofs.Resending.{turns-resent}
use Rattle.pass_model.proofs.turns.turns_are_a_pass.Goals as goal

pub returns-clause-pass : goal.returns-clause-pass
returns-clause-pass c = λ s before after many sound order e. turns-pass s sound before after many order e

pub returns-clause-resent : goal.returns-clause-resent
returns-clause-resent c = λ s before after deletes many sound order valid e. turns-resent s sound before after deletes many order valid e

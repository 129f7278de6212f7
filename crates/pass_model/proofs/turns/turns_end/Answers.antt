use Rattle.pass_model.proofs.Ending.{turns-end, turns-end-resent}
use Rattle.pass_model.proofs.turns.turns_end.Goals as goal

pub returns-clause-pass : goal.returns-clause-pass
returns-clause-pass c = turns-end

pub returns-clause-resent : goal.returns-clause-resent
returns-clause-resent c = λ s before deletes. turns-end-resent s deletes before

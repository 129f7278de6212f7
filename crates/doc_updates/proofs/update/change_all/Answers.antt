use Rattle.std.proofs.Common.{arith}
use Rattle.std.proofs.lemmas.Grind.{common_steps}
use Rattle.doc_updates.proofs.update.change_all.Goals as goal

pub loop-change-preserved : goal.loop-change-preserved
loop-change-preserved c = grind (arith, common_steps)

pub returns-in_err-change_one-clause-fault : goal.returns-in_err-change_one-clause-fault
returns-in_err-change_one-clause-fault c = grind (arith, common_steps)

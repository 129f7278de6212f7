use Rattle.pass_model.proofs.Loops.{loop-begins, loop-goes, loop-ends}
use Rattle.pass_model.proofs.laws.loops_reach_all.Goals as goal

pub returns-clause-begins : goal.returns-clause-begins
returns-clause-begins c = loop-begins

pub returns-clause-goes : goal.returns-clause-goes
returns-clause-goes c = loop-goes

pub returns-clause-ends : goal.returns-clause-ends
returns-clause-ends c = loop-ends

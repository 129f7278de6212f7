use Rattle.lane_completeness.proofs.Carried.{undisturbed, all-undisturbed, perfect, running}
use Rattle.lane_completeness.proofs.laws.answered_lines_are_undisturbed.Goals as goal

pub returns-clause-since : goal.returns-clause-since
returns-clause-since c = undisturbed

pub returns-clause-all : goal.returns-clause-all
returns-clause-all c = all-undisturbed

pub returns-clause-perfect : goal.returns-clause-perfect
returns-clause-perfect c = perfect

pub returns-clause-running : goal.returns-clause-running
returns-clause-running c = running

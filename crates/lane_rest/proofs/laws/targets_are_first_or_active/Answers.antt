use Rattle.lane_rest.proofs.Facts.{first-target, active-target}
use Rattle.lane_rest.proofs.laws.targets_are_first_or_active.Goals as goal

pub returns-clause-first : goal.returns-clause-first
returns-clause-first c = first-target

pub returns-clause-active : goal.returns-clause-active
returns-clause-active c = active-target

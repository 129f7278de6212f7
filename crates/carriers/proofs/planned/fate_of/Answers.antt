use Rattle.carriers.proofs.PlanLaws.{first_of_drop}
use Rattle.carriers.proofs.planned.fate_of.Goals as goal

pub returns-then-place-plans : goal.returns-then-place-plans
returns-then-place-plans c = first_of_drop _ _ _ c.if-place-plans.true

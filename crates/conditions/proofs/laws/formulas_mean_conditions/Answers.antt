use Rattle.conditions.proofs.Meanings.{condition_means}
use Rattle.conditions.proofs.laws.formulas_mean_conditions.Goals as goal

pub returns : goal.returns
returns g c = condition_means

use Rattle.group_counts.proofs.LeastLaws.{least-bound, greatest-bound}
use Rattle.group_counts.proofs.laws.extremes_bound.Goals as goal

pub returns-clause-least : goal.returns-clause-least
returns-clause-least c = least-bound

pub returns-clause-greatest : goal.returns-clause-greatest
returns-clause-greatest c = greatest-bound

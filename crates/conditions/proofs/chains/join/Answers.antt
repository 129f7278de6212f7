use Rattle.std.proofs.Common.{rules}
use Rattle.conditions.proofs.chains.join.Goals as goal

pub returns-in-Or : goal.returns-in-Or
returns-in-Or g c = search rules

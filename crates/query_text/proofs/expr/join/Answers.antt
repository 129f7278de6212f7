use Rattle.std.proofs.Common.{rules}
use Rattle.query_text.proofs.expr.join.Goals as goal

pub returns-in-Or : goal.returns-in-Or
returns-in-Or c = search rules

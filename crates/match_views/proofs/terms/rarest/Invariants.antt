use Rattle.std.proofs.Common.{◌<◌, length}
use Rattle.match_views.proofs.terms.rarest.Given as goal

abbrev pub invariant-loop-at : goal.invariant-loop-at
invariant-loop-at g l = l.best < length l.tokens

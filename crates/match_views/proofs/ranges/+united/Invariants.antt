use Rattle.std.proofs.Common.{length}
use Rattle.match_views.proofs.ranges.+united.Given as goal

abbrev pub decreases-united : goal.decreases-united
decreases-united l = length l.parts.now

use Rattle.std.proofs.Common.{◌≡◌, length}
use Rattle.feeder_tables.proofs.lines.feeders_of.Given as goal

abbrev pub invariant-loop-feeder : goal.invariant-loop-feeder
invariant-loop-feeder l = length l.made.items ≡ l.feeder

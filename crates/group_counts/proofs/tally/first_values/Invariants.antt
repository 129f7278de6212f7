use Rattle.std.proofs.Common.{◌≡◌, map, take, []}
use Rattle.group_counts.specs.Keyed.{output_over}
use Rattle.group_counts.specs.Tallies.{AreSmall}
use Rattle.group_counts.proofs.tally.first_values.Given as goal

abbrev pub invariant-loop-kind : goal.invariant-loop-kind
invariant-loop-kind l = (l.values.items ≡ map (output_over []) (take l.kind-index l.kinds)) × AreSmall 0 l.values.items

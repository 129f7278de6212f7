use Rattle.std.proofs.Common.{arith}
use Rattle.std.proofs.lemmas.Int.{ints}
use Rattle.group_counts.proofs.figures.number_of.Goals as goal

pub returns-in-Some-Int-clause-wide : goal.returns-in-Some-Int-clause-wide
returns-in-Some-Int-clause-wide c = (omega (arith, ints), omega (arith, ints))

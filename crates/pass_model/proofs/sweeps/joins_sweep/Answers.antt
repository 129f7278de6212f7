use Rattle.std.proofs.Common.{refl}
use Rattle.pass_model.proofs.JoinSweeps.{level-begins, row-stays, not-second, join-goes-on, join-fewer, level-ends, none-left}
use Rattle.pass_model.proofs.sweeps.joins_sweep.Goals as goal

pub returns-clause-begins : goal.returns-clause-begins
returns-clause-begins c = level-begins

pub returns-clause-stays : goal.returns-clause-stays
returns-clause-stays c = row-stays

pub returns-clause-never_second : goal.returns-clause-never_second
returns-clause-never_second c = not-second

pub returns-clause-goes_on : goal.returns-clause-goes_on
returns-clause-goes_on c = λ s before w made now at other p a b found beside behind can parted rises valid j. join-goes-on s w at other p a b found beside can a.bucket.bits refl behind parted rises valid before made now j

pub returns-clause-fewer : goal.returns-clause-fewer
returns-clause-fewer c = join-fewer

pub returns-clause-ends : goal.returns-clause-ends
returns-clause-ends c = level-ends

pub returns-clause-none_left : goal.returns-clause-none_left
returns-clause-none_left c = none-left

use Rattle.pass_model.specs.Passes.{NoSplit}
use Rattle.pass_model.proofs.SplitSweeps.{split-stays, split-goes-on, split-fewer, split-ends}
use Rattle.pass_model.proofs.sweeps.splits_sweep.Goals as goal

pub returns-clause-begins : goal.returns-clause-begins
returns-clause-begins c = λ s w. record { splits = NoSplit w; not_full = tt }

pub returns-clause-stays : goal.returns-clause-stays
returns-clause-stays c = split-stays

pub returns-clause-goes_on : goal.returns-clause-goes_on
returns-clause-goes_on c = λ s before w at r a found few full ok rises. split-goes-on s w at r found few before ok rises full a

pub returns-clause-fewer : goal.returns-clause-fewer
returns-clause-fewer c = split-fewer

pub returns-clause-ends : goal.returns-clause-ends
returns-clause-ends c = split-ends

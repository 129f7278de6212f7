use Rattle.operation_keeping.proofs.Ending.{ends-so, acked-so}
use Rattle.operation_keeping.proofs.laws.operations_end.Goals as goal

pub returns-clause-ends : goal.returns-clause-ends
returns-clause-ends c = λ lane rules J newest last nodes parts keep d s line row written t know x h. ends-so lane rules J d s line row written t keep.legal know x h

pub returns-clause-acked : goal.returns-clause-acked
returns-clause-acked c = λ lane rules J newest last nodes parts keep d s line row written t know stamp h. acked-so lane rules J d s line row written t keep.legal know stamp h

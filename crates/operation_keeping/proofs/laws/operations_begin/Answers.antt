use Rattle.operation_keeping.proofs.Lines.{begun-next, drawn-begun}
use Rattle.operation_keeping.proofs.laws.operations_begin.Goals as goal

pub returns : goal.returns
returns c = record { begins = begun-next; counted = drawn-begun }

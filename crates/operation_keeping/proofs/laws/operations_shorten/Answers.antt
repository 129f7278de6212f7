use Rattle.operation_keeping.proofs.Left.{few-left, one-left, one-less}
use Rattle.operation_keeping.proofs.laws.operations_shorten.Goals as goal

pub returns : goal.returns
returns c = record { few = few-left; asks = one-left; falls = one-less }

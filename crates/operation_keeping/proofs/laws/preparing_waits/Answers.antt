use Rattle.operation_keeping.proofs.Lines.{preparing-waits, under_way-waits, closed-waits, fresh-waits, drawn-waits}
use Rattle.operation_keeping.proofs.laws.preparing_waits.Goals as goal

pub returns : goal.returns
returns c = record { preparing = preparing-waits; under_way = under_way-waits; closed = closed-waits; fresh = fresh-waits; counted = drawn-waits }

use Rattle.operation_keeping.proofs.Lines.{refused-elsewhere}
use Rattle.operation_keeping.proofs.laws.lines_are_refused.Goals as goal

pub returns : goal.returns
returns c = refused-elsewhere

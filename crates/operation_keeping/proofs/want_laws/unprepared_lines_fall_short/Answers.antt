use Rattle.operation_keeping.proofs.Falling.{falls-short}
use Rattle.operation_keeping.proofs.want_laws.unprepared_lines_fall_short.Goals as goal

pub returns : goal.returns
returns c = λ lane rules J line key d s x h. falls-short J line s lane rules key d x h

use Rattle.lane_keeping.proofs.Asking.{told-by, same-awaited, keeps-known, keeps-alike}
use Rattle.lane_keeping.proofs.laws.parts_are_told.Goals as goal

pub returns-clause-told : goal.returns-clause-told
returns-clause-told c = told-by

pub returns-clause-silent : goal.returns-clause-silent
returns-clause-silent c = λ p q n h. same-awaited p q h

pub returns-clause-known : goal.returns-clause-known
returns-clause-known c = λ lane rules J newest last nodes parts keep d after same others. keeps-known lane rules J newest last nodes parts keep d after same others

pub returns-clause-alike : goal.returns-clause-alike
returns-clause-alike c = λ lane rules J newest last nodes parts keep d after asked awaited stage e others. keeps-alike lane rules J newest last nodes parts keep d after asked awaited stage e others

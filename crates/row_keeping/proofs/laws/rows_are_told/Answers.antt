use Rattle.row_keeping.proofs.Telling.{told-legal, told-brings, told-whole}
use Rattle.row_keeping.proofs.laws.rows_are_told.Goals as goal

pub returns-clause-legal : goal.returns-clause-legal
returns-clause-legal c = told-legal

pub returns-clause-brings : goal.returns-clause-brings
returns-clause-brings c = told-brings

pub returns-clause-whole : goal.returns-clause-whole
returns-clause-whole c = told-whole

pub returns-clause-sent : goal.returns-clause-sent
returns-clause-sent c = λ lane rules J newest last nodes parts keep d s m t. c.events_are_kept.ensures.sent lane rules J newest last nodes parts keep m
    (told-legal lane rules J newest last nodes parts keep d s m t) (told-brings lane rules J newest last nodes parts keep d s m t) (told-whole lane rules J newest last nodes parts keep d s m t)

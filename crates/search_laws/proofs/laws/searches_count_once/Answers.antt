use Rattle.search_laws.proofs.Exactly.{times_counted-there, not-times_counted}
use Rattle.std.proofs.Common.{◌≡◌, true}
use Rattle.search_laws.proofs.Counting.{times_counted-once, covered-bounded, found-at-full}
use Rattle.search_laws.proofs.Filling.{full-where-found}
use Rattle.search_laws.proofs.laws.searches_count_once.Goals as goal

pub returns-clause-once : goal.returns-clause-once
returns-clause-once c = times_counted-once

pub returns-clause-bounded : goal.returns-clause-bounded
returns-clause-bounded c = covered-bounded

pub returns-clause-full : goal.returns-clause-full
returns-clause-full c = λ w test. found-at-full w (λ n. test n ≡ true)

pub returns-clause-found : goal.returns-clause-found
returns-clause-found c = λ w. full-where-found w (λ n. Unit {0})

pub returns-clause-there : goal.returns-clause-there
returns-clause-there c = times_counted-there

pub returns-clause-absent : goal.returns-clause-absent
returns-clause-absent c = not-times_counted

use Rattle.match_views.proofs.PlaceLaws.{joined-places, cut-places, lacking-places}
use Rattle.match_views.proofs.laws.places_are_tested.Goals as goal

pub returns-clause-joined : goal.returns-clause-joined
returns-clause-joined c = λ p q rows. joined-places p q 0 rows

pub returns-clause-cut : goal.returns-clause-cut
returns-clause-cut c = λ p q rows. cut-places p q 0 rows

pub returns-clause-lacking : goal.returns-clause-lacking
returns-clause-lacking c = λ p q rows. lacking-places p q 0 rows

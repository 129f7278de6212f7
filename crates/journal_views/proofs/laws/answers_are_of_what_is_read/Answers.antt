use Rattle.journal_views.proofs.Searched.{answer-read}
use Rattle.journal_views.proofs.laws.answers_are_of_what_is_read.Goals as goal

pub returns : goal.returns
returns c = answer-read

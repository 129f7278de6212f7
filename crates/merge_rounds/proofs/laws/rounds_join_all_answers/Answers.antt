use Rattle.std.proofs.Common.{refl}
use Rattle.merge_rounds.proofs.RunLaws.{goes_on, whole}
use Rattle.merge_rounds.proofs.laws.rounds_join_all_answers.Goals as goal

pub returns-clause-begins : goal.returns-clause-begins
returns-clause-begins c replies origin row readers receivers = record { reads = refl; first = tt; shown = refl; union = refl }

pub returns-clause-goes_on : goal.returns-clause-goes_on
returns-clause-goes_on c = goes_on

pub returns-clause-whole : goal.returns-clause-whole
returns-clause-whole c = whole

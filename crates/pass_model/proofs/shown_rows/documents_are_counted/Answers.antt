use Rattle.pass_model.proofs.ShownCounts.{documents-counted}
use Rattle.pass_model.proofs.shown_rows.documents_are_counted.Goals as goal

pub returns : goal.returns
returns c = λ b U J u once held. documents-counted b U J once u held

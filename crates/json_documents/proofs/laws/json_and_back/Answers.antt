use Rattle.json_documents.proofs.BackLaws.{right_back, same_back}
use Rattle.json_documents.proofs.laws.json_and_back.Goals as goal

pub returns-clause-right : goal.returns-clause-right
returns-clause-right c = right_back

pub returns-clause-same : goal.returns-clause-same
returns-clause-same c = same_back

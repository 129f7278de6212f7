use Rattle.document_ids.proofs.FaultLaws.{faults_told}
use Rattle.document_ids.proofs.laws.faults_are_leftmost.Goals as goal

pub returns : goal.returns
returns c = faults_told

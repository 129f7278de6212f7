use Rattle.bucket_ids.proofs.Turned.{runs_seam, runs_last}
use Rattle.bucket_ids.proofs.laws.runs_of_children.Goals as goal

pub returns-clause-seam : goal.returns-clause-seam
returns-clause-seam c = runs_seam

pub returns-clause-last : goal.returns-clause-last
returns-clause-last c = runs_last

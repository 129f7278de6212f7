use Rattle.lane_completeness.proofs.Completeness.{ends-well}
use Rattle.lane_completeness.proofs.laws.undisturbed_writes_end_well.Goals as goal

pub returns : goal.returns
returns c = λ lane rules are line d v o stamp J K outcome plain u. ends-well lane rules are line d v o stamp J K outcome u plain

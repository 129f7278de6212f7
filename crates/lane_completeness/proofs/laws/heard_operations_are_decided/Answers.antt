use Rattle.lane_completeness.proofs.Completeness.{is-decided-beside, ends-well-beside}
use Rattle.lane_completeness.proofs.laws.heard_operations_are_decided.Goals as goal

pub returns : goal.returns
returns c = record {
  decided = is-decided-beside;
  well = λ lane rules are line d v o stamp J K outcome plain u. ends-well-beside lane rules are line d v o stamp J K outcome u plain;
}

use Rattle.entry_maps.proofs.JoinLaws.{get-joined, joined-alone}
use Rattle.entry_maps.proofs.joins.joins_are_by_document.Goals as goal

pub returns : goal.returns
returns c = record { entry = get-joined; alone = joined-alone }

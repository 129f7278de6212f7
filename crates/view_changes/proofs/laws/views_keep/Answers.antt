use Rattle.view_changes.proofs.ViewLaws.{view-changed}
use Rattle.view_changes.proofs.laws.views_keep.Goals as goal

pub returns : goal.returns
returns c = view-changed

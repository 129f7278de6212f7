use Rattle.view_changes.proofs.LaneLaws.{deed-shown, adoption-shown}
use Rattle.view_changes.proofs.laws.deeds_are_shown.Goals as goal

pub returns-clause-deed : goal.returns-clause-deed
returns-clause-deed c = deed-shown

pub returns-clause-adoption : goal.returns-clause-adoption
returns-clause-adoption c = adoption-shown

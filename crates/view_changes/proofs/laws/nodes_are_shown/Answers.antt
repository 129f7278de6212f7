use Rattle.view_changes.proofs.DeedLaws.{shows-activated}
use Rattle.view_changes.proofs.ShownLaws.{shows-adopted, shows-taken, shows-outside}
use Rattle.view_changes.proofs.laws.nodes_are_shown.Goals as goal

pub returns-clause-adopted : goal.returns-clause-adopted
returns-clause-adopted c = shows-adopted

pub returns-clause-taken : goal.returns-clause-taken
returns-clause-taken c = shows-taken

pub returns-clause-outside : goal.returns-clause-outside
returns-clause-outside c = shows-outside

pub returns-clause-activated : goal.returns-clause-activated
returns-clause-activated c = shows-activated

use Rattle.pass_model.proofs.Targets.{targets-of-list}
use Rattle.pass_model.proofs.shown_rows.targets_are_of_the_list.Goals as goal

pub returns : goal.returns
returns c = targets-of-list

use Rattle.pass_model.proofs.Once.{all-once}
use Rattle.pass_model.proofs.shown_rows.writes_are_once.Goals as goal

pub returns : goal.returns
returns c = all-once

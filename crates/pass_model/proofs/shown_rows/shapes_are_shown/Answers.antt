use Rattle.pass_model.proofs.Shapes.{shapes-shown}
use Rattle.pass_model.proofs.shown_rows.shapes_are_shown.Goals as goal

pub returns : goal.returns
returns c = λ b ps qs ok apart same. shapes-shown b ok ps qs apart same

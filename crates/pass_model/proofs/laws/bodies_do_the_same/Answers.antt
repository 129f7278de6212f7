use Rattle.pass_model.proofs.Lanes.{tells, does, laid-apart}
use Rattle.pass_model.proofs.laws.bodies_do_the_same.Goals as goal

pub returns : goal.returns
returns c = record {
  answers = λ came doubled y z x r p valid w t. tells doubled came y z x r p (laid-apart c.runs_are_known.ensures 0 y.pieces valid.holding.laid) w t;
  does = λ came doubled y z x r p valid lie w t. does doubled came y z x r p lie (laid-apart c.runs_are_known.ensures 0 y.pieces valid.holding.laid) w t;
}

use Rattle.pass_model.proofs.Lanes.{told-once, told-twice, laid-apart}
use Rattle.pass_model.proofs.laws.messages_do_the_same.Goals as goal

pub returns : goal.returns
returns c = record {
  once = λ came doubled y z x r p valid lie w t off. told-once doubled came y z x r p lie (laid-apart c.runs_are_known.ensures 0 y.pieces valid.holding.laid) w t off;
  twice = λ came doubled y z v x r q p valid next lie w u t more on. told-twice doubled came y z v x r q p lie (laid-apart c.runs_are_known.ensures 0 y.pieces valid.holding.laid) (laid-apart c.runs_are_known.ensures 0 z.pieces next.holding.laid) w u t more on;
}

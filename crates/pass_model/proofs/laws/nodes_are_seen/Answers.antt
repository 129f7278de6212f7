use Rattle.pass_model.proofs.Lanes.{seen-said, seen-sound}
use Rattle.pass_model.proofs.laws.nodes_are_seen.Goals as goal

pub returns : goal.returns
returns c = record {
  said = λ J n came doubled y h. seen-said doubled came J n y h;
  sound = λ came doubled y valid. seen-sound doubled came c.runs_are_known.ensures y valid;
}

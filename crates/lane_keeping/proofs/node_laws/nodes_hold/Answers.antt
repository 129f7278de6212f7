use Rattle.lane_keeping.proofs.Permits.{holds-key}
use Rattle.lane_keeping.proofs.Holding.{regions-hold, serial-few}
use Rattle.lane_keeping.proofs.node_laws.nodes_hold.Goals as goal

pub returns : goal.returns
returns c = record {
  keys = λ S J n x legal h key. holds-key c.runs_are_known.ensures S J legal x n h key;
  regions = regions-hold;
  serials = serial-few;
}

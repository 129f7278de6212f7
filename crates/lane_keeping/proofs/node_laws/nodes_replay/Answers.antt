use Rattle.lane_keeping.proofs.Taking.{may-deliver, keeps-taken}
use Rattle.lane_keeping.proofs.node_laws.nodes_replay.Goals as goal

pub returns : goal.returns
returns c = record {
  permitted = λ S J number m x y r t. may-deliver c.runs_are_known.ensures c.keys_locate.ensures.small S J number m x y r t;
  keeps = λ S J number m x y r t. keeps-taken c.runs_are_known.ensures c.keys_locate.ensures.small S J number m x y r t;
}

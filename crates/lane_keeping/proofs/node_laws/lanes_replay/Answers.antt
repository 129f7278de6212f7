use Rattle.lane_keeping.proofs.Lanes.{lane-begins, lane-waits, lane-takes}
use Rattle.lane_keeping.proofs.node_laws.lanes_replay.Goals as goal

pub returns : goal.returns
returns c = record { begins = lane-begins; waits = lane-waits; takes = lane-takes c.runs_are_known.ensures c.keys_locate.ensures.small }

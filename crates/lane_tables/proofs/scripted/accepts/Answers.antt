use Rattle.lane_tables.proofs.Walking.{accepted-by}
use Rattle.lane_tables.proofs.scripted.accepts.Goals as goal

pub returns : goal.returns
returns c = accepted-by c.publish.result _ c.args.lane.now.lane.lane c.args.lane.now.lane.rules c.args.acks c.journal.result.now c.args.lane.now.lane.journal c.args.state.now c.in_ok-states.ensures c.journal.ensures.events c.requires c.publish.ensures.none

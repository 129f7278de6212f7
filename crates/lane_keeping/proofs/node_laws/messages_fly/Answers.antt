use Rattle.lane_keeping.proofs.Flying.{flight-sent, flight-stays}
use Rattle.lane_keeping.proofs.Sending.{may-send}
use Rattle.lane_keeping.proofs.node_laws.messages_fly.Goals as goal

pub returns : goal.returns
returns c = record { may_go = may-send; sent = flight-sent; stays = flight-stays }

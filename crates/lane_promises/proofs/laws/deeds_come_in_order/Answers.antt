use Rattle.lane_promises.proofs.Order.{deeds_in_order}
use Rattle.lane_promises.proofs.laws.deeds_come_in_order.Goals as goal

pub returns : goal.returns
returns c = deeds_in_order

use Rattle.lane_calls.proofs.Ordering.{feeders-in-order, documents-in-order}
use Rattle.lane_calls.proofs.laws.lines_come_in_order.Goals as goal

pub returns : goal.returns
returns c = record { feeder = feeders-in-order; document = documents-in-order }

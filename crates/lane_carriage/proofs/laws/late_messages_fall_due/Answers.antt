use Rattle.lane_carriage.proofs.Dues.{just, rising}
use Rattle.lane_carriage.proofs.laws.late_messages_fall_due.Goals as goal

pub returns : goal.returns
returns c = record { just = just; rising = rising }

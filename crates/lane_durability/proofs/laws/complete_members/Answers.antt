use Rattle.lane_durability.proofs.Members.{members-hold, rows-hold, members-pieces}
use Rattle.lane_durability.proofs.laws.complete_members.Goals as goal

pub returns : goal.returns
returns c = record { members = λ acks some P J l. members-hold acks P some J l; rows = λ acks some P J l. rows-hold acks P some J l; pieces = λ acks some P J l. members-pieces acks P some J l }

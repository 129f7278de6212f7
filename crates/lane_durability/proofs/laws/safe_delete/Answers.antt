use Rattle.lane_durability.proofs.Copies.{all-safe}
use Rattle.lane_durability.proofs.TwoDeletes.{two_deletes}
use Rattle.lane_durability.proofs.laws.safe_delete.Goals as goal

pub returns : goal.returns
returns c = record { safe = λ acks some P J l. all-safe acks P some J l; one = λ acks some P J l. two_deletes acks P J l }

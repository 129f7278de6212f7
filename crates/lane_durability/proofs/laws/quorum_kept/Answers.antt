use Rattle.lane_durability.proofs.Copies.{stored-stays}
use Rattle.lane_durability.proofs.laws.quorum_kept.Goals as goal

pub returns : goal.returns
returns c = record { stays = λ acks some P J l. stored-stays acks P some J l }

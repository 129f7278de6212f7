use Rattle.lane_durability.proofs.Operations.{counted-once, found-newest}
use Rattle.lane_durability.proofs.theorem.regions_count_once.Goals as goal

pub returns : goal.returns
returns c = record { apart = λ acks some P J l. counted-once acks P some J l; current = λ acks some P J l. found-newest acks P some J l }

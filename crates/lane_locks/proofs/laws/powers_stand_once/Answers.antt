use Rattle.std.proofs.Common.{length, refl}
use Rattle.lane_locks.proofs.Powers.{stands-once}
use Rattle.lane_locks.proofs.laws.powers_stand_once.Goals as goal

pub returns : goal.returns
returns c ns sum k less = stands-once (length ns) ns refl sum k less

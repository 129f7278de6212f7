use Rattle.std.proofs.Common.{refl}
use Rattle.lane_rounds.proofs.rounds.tell_back.Goals as goal

pub returns-in-None : goal.returns-in-None
returns-in-None c = rw c.in-None.is (c.tell.ensures, refl)

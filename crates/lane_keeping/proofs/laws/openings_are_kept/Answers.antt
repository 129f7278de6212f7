use Rattle.lane_keeping.proofs.Asking.{opened-by}
use Rattle.lane_keeping.proofs.laws.openings_are_kept.Goals as goal

pub returns : goal.returns
returns c = opened-by

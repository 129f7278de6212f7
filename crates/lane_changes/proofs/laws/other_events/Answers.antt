use Rattle.std.proofs.Common.{refl}
use Rattle.lane_changes.proofs.Quiet.{changes-quiet}
use Rattle.lane_changes.proofs.laws.other_events.Goals as goal

pub returns : goal.returns
returns c = record { stopped = λ J n. refl; started = λ J n. refl; quiet = changes-quiet }

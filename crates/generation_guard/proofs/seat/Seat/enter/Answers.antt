use Rattle.generation_guard.proofs.Rules.{takes}
use Rattle.generation_guard.proofs.seat.Seat.enter.Goals as goal

pub enter_as-requires : goal.enter_as-requires
enter_as-requires c = takes _ _

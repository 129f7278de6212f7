use Rattle.std.proofs.Common.{refl}
use Rattle.lane_rounds.proofs.rounds.tell_run.Goals as goal

pub returns : goal.returns
returns c = record { told = c.tell.ensures; run_is = rw (c.raised-run-2.ensures, c.raised-run.ensures, c.is_refusal-refused.ensures, c.is_reading-reading.ensures) refl }

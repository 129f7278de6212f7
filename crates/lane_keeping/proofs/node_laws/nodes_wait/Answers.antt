use Rattle.std.proofs.Common.{sym, ◌∙◌}
use Rattle.lane_keeping.proofs.Replays.{begins, waits, apart}
use Rattle.lane_keeping.proofs.node_laws.nodes_wait.Goals as goal

pub returns : goal.returns
returns c = record {
  begins = begins;
  waits = waits;
  apart = λ J number r m n x f ne h. apart J number r f.sending n x f.was_sent (λ e. ne (sym f.receiver_is ∙ e)) h;
}

use Rattle.lane_keeping.proofs.Flying.{entry-stays}
use Rattle.lane_keeping.proofs.Stamping.{written-apply, content-is}
use Rattle.lane_keeping.proofs.Writing.{entry-written, entry-stamped}
use Rattle.lane_keeping.proofs.Sending.{taken-back, stamps-join}
use Rattle.lane_keeping.proofs.node_laws.entries_are_written.Goals as goal

pub returns : goal.returns
returns c = record {
  wrote = entry-written;
  stamped = entry-stamped;
  shown = taken-back;
  stay = λ J e m h id x g. let w = h id x g in (w.0, entry-stays J e x.stamp x w.1);
  joined = λ wrote m other h k. written-apply wrote m other k h;
  newer = stamps-join;
  named = λ J m id h. content-is J m h id;
}

use Rattle.lane_journals.proofs.Marks.{active-complete, one_active}
use Rattle.lane_journals.proofs.Regions.{region-active, region-newer}
use Rattle.lane_journals.proofs.active_copies.one_active_copy.Goals as goal

pub returns : goal.returns
returns c = record {
  active = λ acks some P J l. active-complete acks P J l;
  activated = λ acks some P J l. one_active acks P J l;
  region = λ acks some P J l. region-active acks P some J l;
  newer = λ acks some P J l. region-newer acks P some J l;
}

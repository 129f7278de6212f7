use Rattle.lane_durability.proofs.Found.{durable, state-few}
use Rattle.lane_durability.proofs.Operations.{newer-later, fresh, read-version, seen-current, saw-nothing-older, late-message, answered-before}
use Rattle.lane_durability.proofs.theorem.durability.Goals as goal

pub returns : goal.returns
returns c = record {
  durable = λ acks some P J l. durable acks P some J l;
  seen = λ acks some P J l. seen-current acks P some J l;
  later = λ acks some P J l. newer-later acks P some J l;
  fresh = λ acks some P J l. fresh acks P some J l;
  current = λ acks some P J l. read-version acks P some J l;
  late = λ acks some P J l. late-message acks P some J l;
  closed = λ acks some P J l. saw-nothing-older acks P some J l;
  before = λ acks some P J l. answered-before acks P some J l;
  few = λ acks some P J l. state-few acks P J l;
}

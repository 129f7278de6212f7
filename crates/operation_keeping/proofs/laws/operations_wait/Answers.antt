use Rattle.std.proofs.Common.{None}
use Rattle.operation_keeping.proofs.Waiting.{standing-waits, asked-waits, just-waits}
use Rattle.operation_keeping.proofs.laws.operations_wait.Goals as goal

pub returns : goal.returns
returns c = record {
  known = λ lane rules J newest last nodes parts keep d s line row written t know number r. standing-waits lane rules J d s line row written t keep.legal None number r know;
  asked = λ lane rules J newest last nodes parts keep d s line row written t number m asked other r. asked-waits lane rules J d s line row written t keep.legal number m other r asked;
  just = just-waits;
}

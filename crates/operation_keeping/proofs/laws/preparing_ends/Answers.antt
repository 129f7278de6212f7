use Rattle.operation_keeping.proofs.Preparing.{ends-opening, ends-round}
use Rattle.operation_keeping.proofs.laws.preparing_ends.Goals as goal

pub returns : goal.returns
returns c = record {
  opening = λ lane rules J newest last nodes parts keep d s line o stamp know answered needed absent lacks. ends-opening lane rules J d s line o stamp keep.legal know answered needed absent lacks;
  round = λ lane rules J newest last nodes parts keep d s line o stamp know row answered needed absent at short. ends-round lane rules J d s line o stamp keep.legal know row answered needed absent at short;
}

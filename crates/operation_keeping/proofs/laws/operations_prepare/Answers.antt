use Rattle.operation_keeping.proofs.Preparing.{prepares, knows-prepared}
use Rattle.operation_keeping.proofs.laws.operations_prepare.Goals as goal

pub returns : goal.returns
returns c = record {
  legal = λ lane rules J newest last nodes parts keep d s line o stamp know row known inside enough quiet. prepares lane rules J d s line o stamp keep.legal know row known inside enough quiet;
  known = λ lane rules J newest last nodes parts keep d s line o stamp know row t acts known inside plain is_plan begun. knows-prepared lane rules J d s line o stamp keep.legal know row known inside acts plain is_plan t begun;
}

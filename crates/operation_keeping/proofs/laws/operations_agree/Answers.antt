use Rattle.operation_keeping.proofs.Agreeing.{same-next}
use Rattle.operation_keeping.proofs.laws.operations_agree.Goals as goal

pub returns : goal.returns
returns c = λ lane rules J newest last nodes parts keep d s line row written t know other entry u knows same. same-next lane rules J d s line row other written entry t u know knows same

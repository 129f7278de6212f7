use Rattle.std.proofs.Common.{refl}
use Rattle.round_keeping.proofs.Hearing.{heard-read, heard-apply, unread, unapplied}
use Rattle.round_keeping.proofs.laws.rounds_hear.Goals as goal

pub returns : goal.returns
returns c = record {
  read = λ lane rules J newest last nodes parts keep d s r act know number m y now wait runs taken none. heard-read lane rules J newest last nodes parts keep d s r know number m y now wait runs taken none y refl;
  applied = λ lane rules J newest last nodes parts keep d s r act know number m y now after wait runs taken some told. heard-apply lane rules J newest last nodes parts keep d s r know number m y now wait runs taken some after told;
  unread = λ lane rules J newest last nodes parts keep d s r act know n. unread lane J d s r n know;
  unapplied = λ lane rules J newest last nodes parts keep d s r act know n after told. unapplied lane J d s r after n know told;
}

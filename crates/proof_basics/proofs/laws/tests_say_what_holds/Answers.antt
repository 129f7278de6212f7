use Rattle.proof_basics.proofs.Numbers.{le-to, le-of, lt-to, lt-of}
use Rattle.proof_basics.proofs.laws.tests_say_what_holds.Goals as goal

pub returns : goal.returns
returns c = record { at_most = λ m n. (le-of m n, le-to m n); less = λ m n. (lt-of m n, lt-to m n) }

use Rattle.doc_types.proofs.IntegerLaws.{integers}
use Rattle.doc_types.proofs.laws.integers_are_decimal.Goals as goal

pub returns : goal.returns
returns c = integers

use Rattle.doc_types.proofs.LiteralLaws.{literals, escaped_again}
use Rattle.doc_types.proofs.laws.literals_are_spelled.Goals as goal

pub returns-clause-exact : goal.returns-clause-exact
returns-clause-exact c = literals

pub returns-clause-again : goal.returns-clause-again
returns-clause-again c = escaped_again

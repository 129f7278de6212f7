use Rattle.std.proofs.Common.{rules}
use Rattle.doc_updates.proofs.effects.quotient.Goals as goal

pub returns-in-Some : goal.returns-in-Some
returns-in-Some c = search rules

use Rattle.sub_databases.proofs.PartLaws.{ready_has, has_ready}
use Rattle.sub_databases.proofs.laws.parts_are_the_entries.Goals as goal

pub returns-clause-ready : goal.returns-clause-ready
returns-clause-ready c = λ p id parts. (ready_has p id, has_ready p id parts)

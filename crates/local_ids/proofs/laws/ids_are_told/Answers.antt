use Rattle.local_ids.proofs.RisingLaws.{with_has, without_has}
use Rattle.local_ids.proofs.MoveLaws.{moved_has}
use Rattle.local_ids.proofs.laws.ids_are_told.Goals as goal

pub returns-clause-with : goal.returns-clause-with
returns-clause-with c = with_has

pub returns-clause-without : goal.returns-clause-without
returns-clause-without c = without_has

pub returns-clause-moved : goal.returns-clause-moved
returns-clause-moved c = λ x z y xs. moved_has x z y xs

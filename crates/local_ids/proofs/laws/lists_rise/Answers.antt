use Rattle.std.proofs.Common.{not, ◌==◌}
use Rattle.local_ids.proofs.RisingLaws.{with_rises, filter_rises}
use Rattle.local_ids.proofs.laws.lists_rise.Goals as goal

pub returns-clause-with : goal.returns-clause-with
returns-clause-with c = with_rises

pub returns-clause-without : goal.returns-clause-without
returns-clause-without c = λ x xs h. filter_rises (λ y. not (y == x)) xs h

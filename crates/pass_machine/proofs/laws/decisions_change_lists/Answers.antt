use Rattle.pass_machine.proofs.WholeLists.{noted_list, part_splits, part_joins}
use Rattle.pass_machine.proofs.laws.decisions_change_lists.Goals as goal

pub returns-clause-noted : goal.returns-clause-noted
returns-clause-noted c = λ shown notes rows h. noted_list shown notes rows h

pub returns-clause-split : goal.returns-clause-split
returns-clause-split c = λ shown notes after p q at x h forgets. part_splits shown notes after p q at h x forgets

pub returns-clause-joined : goal.returns-clause-joined
returns-clause-joined c = λ shown notes after p q at x s list w t bits d j h are forgets. part_joins shown notes after p q at h x w are s list t bits d j forgets

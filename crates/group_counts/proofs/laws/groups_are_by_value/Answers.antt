use Rattle.group_counts.proofs.GatherLaws.{number-group, text-group}
use Rattle.group_counts.proofs.laws.groups_are_by_value.Goals as goal

pub returns-clause-numbers : goal.returns-clause-numbers
returns-clause-numbers c = number-group

pub returns-clause-texts : goal.returns-clause-texts
returns-clause-texts c = text-group

use Rattle.attribute_columns.proofs.ColumnLaws.{rising, told}
use Rattle.attribute_columns.proofs.laws.lists_tell_values.Goals as goal

pub returns-clause-rising : goal.returns-clause-rising
returns-clause-rising c = rising

pub returns-clause-told : goal.returns-clause-told
returns-clause-told c = told

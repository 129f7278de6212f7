use Rattle.doc_types.proofs.ValueLaws.{same_value, turned_order, order_goes_on}
use Rattle.doc_types.proofs.laws.values_are_ordered.Goals as goal

pub returns-clause-same : goal.returns-clause-same
returns-clause-same c = same_value

pub returns-clause-turned : goal.returns-clause-turned
returns-clause-turned c = turned_order

pub returns-clause-transitive : goal.returns-clause-transitive
returns-clause-transitive c = order_goes_on

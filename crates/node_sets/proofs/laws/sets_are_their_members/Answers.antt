use Rattle.node_sets.proofs.Bits.{same_members, size_next, size_of_most, size_below_most}
use Rattle.node_sets.proofs.laws.sets_are_their_members.Goals as goal

pub returns-clause-same : goal.returns-clause-same
returns-clause-same c = same_members

pub returns-clause-most : goal.returns-clause-most
returns-clause-most c = size_of_most

pub returns-clause-below : goal.returns-clause-below
returns-clause-below c = size_below_most

pub returns-clause-grows : goal.returns-clause-grows
returns-clause-grows c = size_next

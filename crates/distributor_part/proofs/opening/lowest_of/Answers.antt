use Rattle.std.proofs.Common.{arith}
use Rattle.distributor_part.proofs.PartLaws.{no_members}
use Rattle.distributor_part.proofs.opening.lowest_of.Goals as goal

pub returns-clause-none : goal.returns-clause-none
returns-clause-none c = no_members c.args.nodes c.loop-node.node (omega arith) c.loop-node.invariant

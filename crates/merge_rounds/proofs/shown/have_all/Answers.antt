use Rattle.std.proofs.Common.{arith}
use Rattle.merge_rounds.proofs.Members.{member_small}
use Rattle.merge_rounds.proofs.shown.have_all.Goals as goal

pub returns-clause-yes : goal.returns-clause-yes
returns-clause-yes c t node member = c.loop-node.invariant node (omega (arith, member_small c.args.readers node member, c.loop-node-test.false)) member

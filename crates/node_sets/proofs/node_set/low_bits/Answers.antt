use Rattle.std.proofs.Common.{arith}
use Rattle.std.proofs.lemmas.Nat.{one_shl, and_mask}
use Rattle.node_sets.proofs.node_set.low_bits.Goals as goal

pub returns : goal.returns
returns c = rw (c.from.ensures, one_shl c.args.end 64 (omega arith)) (and_mask c.args.bits c.args.end)

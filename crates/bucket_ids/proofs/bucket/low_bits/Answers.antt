use Rattle.std.proofs.lemmas.Nat.{one_shl, and_mask}
use Rattle.bucket_ids.proofs.bucket.low_bits.Goals as goal

pub returns : goal.returns
returns c = rw (one_shl c.args.bits 64 c.requires) (and_mask c.args.key c.args.bits)

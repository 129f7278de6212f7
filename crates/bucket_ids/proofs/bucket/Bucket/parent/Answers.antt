use Rattle.bucket_ids.proofs.KeySets.{parent_includes}
use Rattle.bucket_ids.proofs.bucket.Bucket.parent.Goals as goal

pub returns-clause-set : goal.returns-clause-set
returns-clause-set c = rw (← c.self.view_is, c.low_bits.ensures) (parent_includes _ c.self.invariant (rw (← c.self.view_is) at c.requires))

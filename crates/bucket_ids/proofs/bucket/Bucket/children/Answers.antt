use Rattle.bucket_ids.proofs.KeySets.{children_parts}
use Rattle.bucket_ids.proofs.bucket.Bucket.children.Goals as goal

pub returns-clause-parts : goal.returns-clause-parts
returns-clause-parts c = rw (← c.self.view_is) (children_parts _ c.self.invariant)

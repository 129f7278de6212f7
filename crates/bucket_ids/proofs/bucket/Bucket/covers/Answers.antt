use Rattle.bucket_ids.proofs.KeySets.{covers_set}
use Rattle.bucket_ids.proofs.bucket.Bucket.covers.Goals as goal

pub returns-clause-set : goal.returns-clause-set
returns-clause-set c = covers_set _ _ _ c.covers_by_bits.ensures.valid c.covers_by_bits.ensures.other_valid c.covers_by_bits.ensures.test

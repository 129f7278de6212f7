use Rattle.bucket_ids.proofs.KeySets.{measures_add}
use Rattle.bucket_ids.proofs.laws.measures_add_up.Goals as goal

pub returns : goal.returns
returns c = measures_add

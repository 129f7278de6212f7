use Rattle.local_ids.proofs.KeyLaws.{keys_rise, keys_with, keys_without}
use Rattle.local_ids.proofs.laws.keys_follow.Goals as goal

pub returns-clause-rise : goal.returns-clause-rise
returns-clause-rise g c = keys_rise

pub returns-clause-with : goal.returns-clause-with
returns-clause-with g c = keys_with

pub returns-clause-without : goal.returns-clause-without
returns-clause-without g c = keys_without

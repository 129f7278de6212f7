use Rattle.pass_model.proofs.Beginning.{rests-from}
use Rattle.pass_model.proofs.laws.a_pass_brings_rest.Goals as goal

pub returns : goal.returns
returns c = λ s before resent after sound begun r p. rests-from s sound before resent after begun r p

use Rattle.pass_model.proofs.Existing.{passes-exist, one-node, one-node-sound}
use Rattle.pass_model.proofs.laws.passes_end.Goals as goal

pub returns-clause-pass : goal.returns-clause-pass
returns-clause-pass c = λ s U before sound sane. passes-exist s sound U before sane

pub returns-clause-settings : goal.returns-clause-settings
returns-clause-settings c = (one-node, one-node-sound)

use Rattle.std.proofs.Common.{◌∙◌}
use Rattle.session_settings.proofs.Choosing.{alone_not_fed, wrong_fed}
use Rattle.session_settings.proofs.choice.choose_fed.Goals as goal

pub returns-in-Err-clause-usage : goal.returns-in-Err-clause-usage
returns-in-Err-clause-usage c e = wrong_fed _ (c.read_choice.ensures.usage (c.in-Err.is ∙ e))

pub returns-then-choice-eq0-clause-usage : goal.returns-then-choice-eq0-clause-usage
returns-then-choice-eq0-clause-usage c e = alone_not_fed _ _ c.in-Ok.ensures.chosen c.if-choice-eq0.true

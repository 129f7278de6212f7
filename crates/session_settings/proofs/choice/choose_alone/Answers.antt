use Rattle.std.proofs.Common.{◌∙◌}
use Rattle.session_settings.proofs.Choosing.{fed_not_alone, wrong_alone}
use Rattle.session_settings.proofs.choice.choose_alone.Goals as goal

pub returns-in-Err-clause-usage : goal.returns-in-Err-clause-usage
returns-in-Err-clause-usage c e = wrong_alone _ (c.read_choice.ensures.usage (c.in-Err.is ∙ e))

pub returns-else-choice-eq0-clause-usage : goal.returns-else-choice-eq0-clause-usage
returns-else-choice-eq0-clause-usage c e = fed_not_alone _ _ c.in-Ok.ensures.chosen c.if-choice-eq0.false

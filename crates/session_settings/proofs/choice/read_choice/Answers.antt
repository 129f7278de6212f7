use Rattle.std.proofs.Common.{◌∙◌, sym}
use Rattle.session_settings.proofs.Choosing.{not_built, no_state}
use Rattle.session_settings.proofs.choice.read_choice.Goals as goal

pub returns-then-not-is_built-clause-usage : goal.returns-then-not-is_built-clause-usage
returns-then-not-is_built-clause-usage c e = not_built _ _ c.in-Ok.ensures.said (sym c.is_built.ensures ∙ c.if-not-is_built.true)

pub returns-in_default-clause-usage : goal.returns-in_default-clause-usage
returns-in_default-clause-usage c e = no_state _ _ c.in-Ok.ensures.said c.in_default.ensures.none

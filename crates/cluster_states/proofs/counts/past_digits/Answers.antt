use Rattle.std.proofs.Common.{◌∙◌, sym}
use Rattle.cluster_states.proofs.Moving.{behind_moves, behind_stops}
use Rattle.cluster_states.proofs.counts.past_digits.Goals as goal

pub returns-then-is_within : goal.returns-then-is_within
returns-then-is_within c = behind_moves _ _ _ _ c.behind.result _ c.requires.other c.behind.ensures c.past_number.ensures

pub returns-else-is_within : goal.returns-else-is_within
returns-else-is_within c = behind_stops _ _ _ _ c.requires.other (sym c.is_within.ensures ∙ c.if-is_within.false)

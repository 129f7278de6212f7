use Rattle.std.proofs.Common.{◌∙◌, sym}
use Rattle.cluster_states.proofs.Moving.{over_ends, over_stops}
use Rattle.cluster_states.proofs.counts.told_by_number.Goals as goal

pub returns-then-is_within : goal.returns-then-is_within
returns-then-is_within c = over_ends _ _ _ c.behind.result _ c.behind.ensures c.told_outside.ensures

pub returns-else-is_within : goal.returns-else-is_within
returns-else-is_within c = over_stops _ _ _ (sym c.is_within.ensures ∙ c.if-is_within.false)

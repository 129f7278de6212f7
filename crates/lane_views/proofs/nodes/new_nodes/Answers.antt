use Rattle.std.proofs.Common.{sym, ◌∙◌, arith}
use Rattle.std.proofs.lemmas.Grind.{common_steps}
use Rattle.lane_views.proofs.StepLaws.{alike-none, alike-more}
use Rattle.lane_views.proofs.nodes.new_nodes.Goals as goal

pub loop-init : goal.loop-init
loop-init c = c.new-nodes.ensures.items ∙ sym (alike-none _)

pub loop-preserved : goal.loop-preserved
loop-preserved c = rw (alike-more, ← c.loop.invariant, ← c.in_ok-new.ensures) (grind (arith, common_steps))

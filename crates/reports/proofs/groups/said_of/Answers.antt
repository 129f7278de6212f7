use Rattle.std.proofs.Common.{ap, subst, length, ◌<◌, get_or, sym, ◌∙◌}
use Rattle.reports.proofs.GroupTokens.{said_step}
use Rattle.reports.proofs.groups.said_of.Goals as goal

pub loop-output-preserved : goal.loop-output-preserved
loop-output-preserved c =
    let same = c.items-output-items.ensures in
    said_step c.args.group.now.value c.args.group.now.outputs c.loop-output.output-index c.output-item.result _ _ _ _ _
    (subst (λ l. c.loop-output.output-index < length l) same c.loop-output-test.true)
    (sym (c.output-item.is ∙ ap (λ l. get_or l c.loop-output.output-index c.output-item.result) same))
    c.in_ok-output_key.ensures (c.output_said.ensures c.args.group.now.value) c.in_ok-insert-2.ensures.entries c.loop-output.invariant

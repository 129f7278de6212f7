use Rattle.std.proofs.Common.{ap, ◌∙◌, arith}
use Rattle.std.proofs.lemmas.Grind.{common_steps}
use Rattle.lane_views.specs.Typed.{TypedNode}
use Rattle.lane_views.proofs.StepLaws.{barred-before, barred-behind}
use Rattle.lane_views.proofs.nodes.is_barred.Goals as goal

pub returns-then-are_in_the_way : goal.returns-then-are_in_the_way
returns-then-are_in_the_way c =
    barred-before c.args.at c.version-version.result c.args.bucket c.args.nodes.now _ c.index-nodes-at.result c.are_in_the_way.result
    c.are_in_the_way.ensures (grind (arith, common_steps)) c.requires
    (c.version-version.ensures ∙ ap (λ (t : TypedNode). (t.node).version) c.index-nodes-at.is) c.if-are_in_the_way.true

pub returns-else-are_in_the_way : goal.returns-else-are_in_the_way
returns-else-are_in_the_way c =
    barred-behind c.args.at c.version-version.result c.args.bucket c.args.nodes.now _ _ c.index-nodes-at.result c.are_in_the_way.result c.are_in_the_way-else-are_in_the_way.result
    c.are_in_the_way.ensures (grind (arith, common_steps)) c.are_in_the_way-else-are_in_the_way.ensures (grind (arith, common_steps)) c.requires
    (c.version-version.ensures ∙ ap (λ (t : TypedNode). (t.node).version) c.index-nodes-at.is) c.if-are_in_the_way.false

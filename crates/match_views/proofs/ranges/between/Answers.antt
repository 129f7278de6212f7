use Rattle.std.proofs.Common.{sym, subst, ◌∙◌, map}
use Rattle.view_changes.specs.Serving.{rows_of}
use Rattle.proof_basics.proofs.Results.{if_ok}
use Rattle.match_views.specs.Ranges.{AreAll}
use Rattle.match_views.specs.Bounds.{within}
use Rattle.match_views.proofs.RangeLaws.{all_within}
use Rattle.match_views.proofs.ranges.between.Goals as goal

pub returns : goal.returns
returns g c =
    let rows = rows_of c.args.node (g.L.Lists.seen c.args.lists.now) in
    let name = c.args.type_name.now in
    let field = c.args.field.now in
    let parts = map (λ p. (p.0, p.1.now)) c.deref.result.now in
    let all : AreAll name field rows (within c.args.one c.args.two) parts = subst (λ ps. AreAll name field rows (within c.args.one c.args.two) (map (λ p. (p.0, p.1.now)) ps)) (sym c.deref.ensures.value) c.in_ok-parts.ensures in
    if_ok c.gathered.result (λ ids e. e ∙ all_within name field rows c.args.one c.args.two parts all c.requires)
    (c.gathered.ensures name field rows all.lists)

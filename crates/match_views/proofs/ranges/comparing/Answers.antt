use Rattle.std.proofs.Common.{◌&&◌, ap, sym, subst, ◌∙◌, map}
use mir.Val.{to_z, of_z}
use mir.Syntax.{w64}
use Rattle.std.proofs.lemmas.Int.{to_z-of_z}
use Rattle.std.specs.FinMap as fin
use Rattle.view_changes.specs.Serving.{rows_of}
use Rattle.document_rows.specs.Reading.{places_where, is_of_type}
use Rattle.query_text.specs.Truth.{value_relates}
use Rattle.proof_basics.proofs.Results.{if_ok}
use Rattle.match_views.specs.Ranges.{AreAll}
use Rattle.match_views.specs.Bounds.{within}
use Rattle.match_views.specs.declared.ranges.Bound.{Bound}
use Rattle.match_views.proofs.RangeLaws.{all_related}
use Rattle.match_views.proofs.ranges.comparing.Goals as goal

pub returns : goal.returns
returns g c =
    let rows = rows_of c.args.node (g.L.Lists.seen c.args.lists.now) in
    let name = c.args.type_name.now in
    let field = c.args.field.now in
    let bound : Bound = record { rel = c.args.rel; number = to_z w64 (of_z w64 c.args.number) } in
    let parts = map (λ p. (p.0, p.1.now)) c.deref.result.now in
    let all : AreAll name field rows (within bound bound) parts = subst (λ ps. AreAll name field rows (within bound bound) (map (λ p. (p.0, p.1.now)) ps)) (sym c.deref.ensures.value) c.in_ok-parts.ensures in
    if_ok c.gathered.result (λ ids e.
    e ∙ all_related name field rows bound parts all
    ∙ ap (λ z. places_where (λ d. is_of_type name d && value_relates c.args.rel z (fin.get d.fields field)) rows) (to_z-of_z w64 c.args.number c.ranges.number))
    (c.gathered.ensures name field rows all.lists)

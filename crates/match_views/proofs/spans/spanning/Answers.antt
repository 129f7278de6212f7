use Rattle.std.proofs.Common.{◌&&◌, ap, sym, ◌∙◌}
use Rattle.view_changes.specs.Serving.{rows_of}
use Rattle.document_rows.specs.Reading.{row_at, is_of_type}
use Rattle.match_views.proofs.PlaceLaws.{same-places}
use Rattle.match_views.proofs.spans.spanning.Goals as goal

pub between-requires : goal.between-requires
between-requires g c = c.has_one.ensures c.if-not-has_one.false c.args.type_name.now c.in-Some.span.field.now (row_at (rows_of c.args.node (g.L.Lists.seen c.args.lists.now))) c.column.ensures

pub returns : goal.returns
returns g c = c.in_ok-ids.ensures ∙ same-places _ _ (λ d. ap (λ t. is_of_type c.args.type_name.now d && t) (sym (c.in-Some.ensures d))) 0 (rows_of c.args.node (g.L.Lists.seen c.args.lists.now))

use Rattle.std.proofs.Common.{◌≡◌, [], take, get_or}
use Rattle.view_changes.specs.Serving.{rows_of}
use Rattle.document_rows.specs.Reading.{places_where}
use Rattle.match_views.proofs.TruthLaws.{has_all}
use Rattle.match_views.proofs.terms.containing.Given as goal

abbrev pub invariant-loop-at : goal.invariant-loop-at
invariant-loop-at g l = l.found.items ≡ places_where (has_all l.type_name l.field (get_or l.tokens l.best []) (take l.at l.tokens)) (rows_of l.node (g.L.Lists.seen l.lists))

-- Which documents of a view a query finds under a version.
use Rattle.std.specs.Prelude.{ℕ, zero, suc, List, [], ◌++◌, map, if◌then◌else◌}
use Rattle.document_rows.specs.Reading.{places_where}
use Rattle.view_changes.specs.Views.{View}
use Rattle.view_changes.specs.Serving.{serves_at, rows_of}
use Rattle.query_text.specs.Truth.{matches_document}
use Rattle.query_text.specs.declared.query.Query.{Query}
use Rattle.match_views.specs.declared.hits.Hit.{Hit}

-- of a node, rising: the documents of which the query is true
abbrev pub found_at : Query → ℕ → View → List Hit
found_at query n v = map (λ local. record { node = n; local = local }) (places_where (matches_document query) (rows_of n v))

-- of the nodes that serve, up to a number
abbrev pub hits_below : Query → ℕ → ℕ → View → List Hit
hits_below query w zero v = []
hits_below query w (suc n) v = hits_below query w n v ++ (if serves_at n w v.nodes then found_at query n v else [])

-- of all nodes that serve
abbrev pub hits_of : Query → ℕ → View → List Hit
hits_of query w v = hits_below query w 32 v

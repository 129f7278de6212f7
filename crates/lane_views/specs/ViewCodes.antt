-- That views are data.
use Rattle.std.specs.Prelude.{ℕ, Bool, List, refl}
use Rattle.std.specs.Coded.{Coded, code_by, coded×, coded_ℕ, coded_bool, coded_list}
use Rattle.bucket_ids.specs.Buckets.{Low}
use Rattle.bucket_ids.specs.contracts.bucket.Bucket as bucket
use Rattle.doc_types.specs.SchemaCodes.{Types, types_code}
use Rattle.document_rows.specs.Rows.{Rows}
use Rattle.node_rows.specs.TypedRows.{rows_code}
use Rattle.view_changes.specs.Views.{NodeView, View}
use Rattle.lane_views.specs.Typed.{TypedNode}

abbrev pub node_code : Coded NodeView
node_code = code_by (ℕ × (Bool × (List Low × Rows))) (coded× coded_ℕ (coded× coded_bool (coded× (coded_list bucket.the_row.coded) rows_code)))
    (λ n. (n.version, (n.stopped, (n.regions, n.rows)))) (λ p. record { version = p.0; stopped = p.1.0; regions = p.1.1.0; rows = p.1.1.1 }) (λ _. refl)

abbrev pub typed_code : Coded TypedNode
typed_code = code_by (Types × NodeView) (coded× types_code node_code) (λ t. (t.types, t.node)) (λ p. record { types = p.0; node = p.1 }) (λ _. refl)

abbrev pub view_code : Coded View
view_code = code_by (Types × (List NodeView × ℕ)) (coded× types_code (coded× (coded_list node_code) coded_ℕ))
    (λ v. (v.types, (v.nodes, v.generation))) (λ p. record { types = p.0; nodes = p.1.0; generation = p.1.1 }) (λ _. refl)

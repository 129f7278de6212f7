use Rattle.std.proofs.Common.{◌<◌, length, refl, sym, ap, subst, ◌∙◌, arith, None}
use Rattle.field_indexes.specs.Told.{fields_of}
use Rattle.node_rows.specs.Kept.{document_in, documents_in, IsKept, set_at}
use Rattle.node_rows.specs.TypedRows.{TypedRows, with_rows}
use Rattle.node_rows.proofs.PlaceLaws.{shown_more, shown_long}
use Rattle.node_rows.proofs.KeptLaws.{kept_more}
use Rattle.node_rows.proofs.node_rows.NodeRows.append_free.Goals as goal

pub invariant_of-self-2 : goal.invariant_of-self-2
invariant_of-self-2 c =
    let types = c.self.inside.schema in
    let store = c.self.inside.ids in
    let items = c.self.inside.rows.items in
    let rows = documents_in items in
    let lists = c.self.inside.indexes.types in
    let fields = fields_of c.self.inside.indexes.fields in
    let long = shown_long document_in items in
    let few : length rows < 4294967295 = subst (λ (t : TypedRows). length t.rows < 4294967295) (sym c.self.view_is) c.requires in
    subst (λ rs. IsKept types store rs lists fields) (sym (ap documents_in c.in_ok-push.ensures.items ∙ shown_more document_in items (length rows) None (omega (arith, long)))) (kept_more types store rows lists fields (length rows) c.self.invariant refl few)

pub returns : goal.returns
returns c =
    let items = c.self.inside.rows.items in
    let rows = documents_in items in
    let long = shown_long document_in items in
    ap (λ rs. record { types = c.self.inside.schema; rows = rs }) (ap documents_in c.in_ok-push.ensures.items ∙ shown_more document_in items (length rows) None (omega (arith, long)))
    ∙ ap (λ (t : TypedRows). with_rows (set_at (length t.rows) None t.rows) t) c.self.view_is

use Rattle.std.proofs.Common.{◌≡◌, ◌≤◌, ℕ, None, take, sym, ap, subst, ◌∙◌}
use Rattle.std.proofs.lemmas.List.{take-map}
use Rattle.field_indexes.specs.Told.{fields_of}
use Rattle.document_rows.specs.Reading.{row_at}
use Rattle.node_rows.specs.Kept.{document_in, documents_in, IsKept}
use Rattle.node_rows.specs.TypedRows.{TypedRows, with_rows}
use Rattle.node_rows.proofs.MoreLaws.{kept_cut}
use Rattle.node_rows.proofs.node_rows.NodeRows.cut.Goals as goal

pub invariant_of-self : goal.invariant_of-self
invariant_of-self c =
    let types = c.self.inside.schema in
    let store = c.self.inside.ids in
    let rows = documents_in c.self.inside.rows.items in
    let lists = c.self.inside.indexes.types in
    let fields = fields_of c.self.inside.indexes.fields in
    let n = c.args.count in
    let free : (k : ℕ) → n ≤ k → row_at rows k ≡ None = subst (λ (t : TypedRows). (k : ℕ) → n ≤ k → row_at t.rows k ≡ None) (sym c.self.view_is) c.requires in
    subst (λ rs. IsKept types store rs lists fields) (sym (ap documents_in c.truncate.ensures.items ∙ sym (take-map document_in n c.self.inside.rows.items))) (kept_cut types store rows lists fields n c.self.invariant free)

pub returns : goal.returns
returns c =
    let n = c.args.count in
    ap (λ rs. record { types = c.self.inside.schema; rows = rs }) (ap documents_in c.truncate.ensures.items ∙ sym (take-map document_in n c.self.inside.rows.items))
    ∙ ap (λ (t : TypedRows). with_rows (take n t.rows) t) c.self.view_is

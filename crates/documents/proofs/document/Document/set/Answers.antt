use Rattle.std.proofs.Common.{◌∙◌, ap, ap₂}
use Rattle.std.specs.FinMap as fin
use Rattle.doc_types.specs.SchemaCodes.{name_cmp}
use Rattle.documents.specs.Fields.{pairs}
use Rattle.documents.proofs.FieldLaws.{map_put}
use Rattle.documents.proofs.document.Document.set.Goals as goal

pub returns-clause-ok : goal.returns-clause-ok
returns-clause-ok c =
    let named = c.in_ok-field.ensures in
    ap fin.from_sorted (c.in_ok-put_in.ensures.ok ∙ ap₂ (λ n v. fin.put name_cmp n v (pairs c.self.inside.fields.items)) named.0 named.1)
    ∙ map_put _ c.args.field.now c.args.value c.self.invariant
    ∙ ap (λ d. fin.insert d.fields c.args.field.now c.args.value) c.self.view_is

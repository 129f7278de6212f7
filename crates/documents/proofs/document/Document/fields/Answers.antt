use Rattle.std.proofs.Common.{◌∙◌, sym, ap}
use Rattle.std.specs.FinMap as fin
use Rattle.std.specs.FinMap.{entries-from_sorted}
use Rattle.doc_types.specs.SchemaCodes.{name_cmp}
use Rattle.documents.specs.Fields.{pairs}
use Rattle.documents.proofs.document.Document.fields.Goals as goal

pub returns : goal.returns
returns c =
    ap pairs c.deref.ensures.value
    ∙ sym (entries-from_sorted name_cmp (pairs c.self.inside.fields.items) c.self.invariant) ∙ ap (λ d. fin.entries d.fields) c.self.view_is
